-- Believed: the statements of the laws in src/laws.rt.
use Rattle.std.specs.Prelude.{◌≡◌, ℕ, ℤ, pos, ◌+◌, ◌^◌, ◌<◌, ◌≤◌, ◌+ℤ◌, ◌*ℤ◌, ◌≤ℤ◌, ◌<ℤ◌, ◌↔◌, Bool, true, not, List, [], ◌∷◌, ◌++◌, length, map, filter, take, slice_get, All, Contains, Some, None, codes, bytes_eq}
use Rattle.std.specs.Fmt.{decimal}
use Rattle.std.specs.List.{IsDistinct, flat_map}
use Rattle.escrow_num.specs.Amount.{IsAmount}
use Rattle.escrow_num.specs.Scale.{unit_at}
use Rattle.escrow_num.specs.Span.{Holds}
use Rattle.escrow_num.specs.Wide.{IsWide}
use Rattle.escrow_num.specs.declared.span.Span.{Span}
use Rattle.escrow_num.specs.declared.span.Side.{Side}
use Rattle.escrow_num.specs.declared.span.Side.TheVariants.{Low, High}
use Rattle.escrow_num.specs.declared.refusal.Violation.{Violation}
use Rattle.escrow_num.specs.declared.wide.TheConstants.Wide.{MAX as MAX_WIDE}
use Rattle.escrow_statement.specs.declared.statement.CheckText.{CheckText}
use Rattle.escrow_checks.specs.declared.check.Check.{Check}
use Rattle.escrow_checks.specs.declared.coefficients.TheConstants.Coefficients.{MAX, MAX_LEN}
use Rattle.escrow_checks.specs.declared.condition.TheConstants.{MAX_CHECKS, MAX_COEFFICIENT}
use Rattle.escrow_checks.specs.declared.spread.TheConstants.Spread.{MAX_OPEN}
use Rattle.escrow_checks.specs.Checks.{checks_behind, checks_of, is_whole, unit_of, units_in}
use Rattle.escrow_checks.specs.Coefficients.{AreCoefficients}
use Rattle.escrow_checks.specs.Condition.{amount_of}
use Rattle.escrow_checks.specs.DeclaredCheck.{IsDeclared}
use Rattle.escrow_checks.specs.Meaning.{MeanTheSame}
use Rattle.escrow_checks.specs.Scales.{scaled_coeffs, written_coeffs}
use Rattle.escrow_checks.specs.Form.{form, IsCovered, changed, all_changed}
use Rattle.escrow_checks.specs.Sublists.{sublists}
use Rattle.escrow_checks.specs.Extremes.{least, greatest}
use Rattle.escrow_checks.specs.Grant.{AlwaysMeets, broken_by, broken}

-- ---- of the checks that CHECKs declare

-- checks mean what the CHECKs that declare them say
abbrev pub ChecksMeanTheirTexts : Type 0
ChecksMeanTheirTexts =
    (columns : List (List ℕ)) (scales : List ℕ) (texts : List CheckText) (checks : List Check)
    → checks_of columns scales texts ≡ Some checks
    → MeanTheSame columns scales texts checks

-- there is one check for each condition of the CHECKs, at most 32, each with a coefficient for each column
abbrev pub ChecksAreWhole : Type 0
ChecksAreWhole =
    (columns : List (List ℕ)) (scales : List ℕ) (texts : List CheckText) (checks : List Check)
    → checks_of columns scales texts ≡ Some checks
    → (length checks ≡ length (flat_map (λ text. text.conditions) texts)) × (length checks ≤ MAX_CHECKS)
    × All (λ check. length check.coeffs ≡ length columns) checks

-- declared checks of a table, and after them those that CHECKs add
pub record StandBehind (columns : List (List ℕ)) (scales : List ℕ) (declared : List Check) (texts : List CheckText)
    (checks : List Check) : Type 0 where
  -- the declared ones stay, and the new ones come after them; at most 32 in all
  pub more : List Check
  pub behind : checks ≡ declared ++ more
  pub few : length checks ≤ MAX_CHECKS
  -- there is a new one for each condition, as the rules of CHECKs demand, and they mean what the CHECKs say
  pub whole : length more ≡ length (flat_map (λ text. text.conditions) texts)
  pub good : All (λ check. IsDeclared columns scales check) more
  pub means : MeanTheSame columns scales texts more

-- this holds for the checks that CHECKs add after those of a table
abbrev pub ChecksStandBehind : Type 0
ChecksStandBehind =
    (columns : List (List ℕ)) (scales : List ℕ) (declared : List Check) (texts : List CheckText) (checks : List Check)
    → checks_behind columns scales declared texts ≡ Some checks → StandBehind columns scales declared texts checks

-- the coefficients, the scale, the limits and the name of each are as the rules of CHECKs demand
abbrev pub ChecksAreDeclared : Type 0
ChecksAreDeclared =
    (columns : List (List ℕ)) (scales : List ℕ) (texts : List CheckText) (checks : List Check)
    → checks_of columns scales texts ≡ Some checks
    → All (λ check. IsDeclared columns scales check) checks

-- the written coefficients of scaled ones are those that were scaled, whatever the scales
abbrev pub WrittenAreGivenBack : Type 0
WrittenAreGivenBack =
    (scale : ℕ) (coeffs : List ℤ) (scales : List ℕ)
    → written_coeffs scale (scaled_coeffs scale coeffs scales) scales ≡ coeffs

-- a limit in units of a scale is written in millionths: these are a whole number of units, and the same units
abbrev pub UnitsAreWhole : Type 0
UnitsAreWhole =
    (scale : ℕ) (units : ℤ) → (is_whole scale (units *ℤ pos (unit_at scale)) ≡ true)
    × (units_in scale (units *ℤ pos (unit_at scale)) ≡ units)

-- how many conditions the CHECKs before the i-th have, counted from 0
abbrev pub conditions_before : List CheckText → ℕ → ℕ
conditions_before texts i = length (flat_map (λ (text : CheckText). text.conditions) (take i texts))

-- the names, in order, that CHECKs give to the checks of their conditions. Places are counted from 0. A condition's
-- place is the number of conditions before it
pub record AreNamed (texts : List CheckText) (names : List (List ℕ)) : Type 0 where
  -- there is a name for each condition
  pub each : length names ≡ length (flat_map (λ (text : CheckText). text.conditions) texts)
  -- the first condition of a CHECK with a name has that name
  pub first : (i : ℕ) (text : CheckText) (name : List ℕ) → slice_get texts i ≡ Some text → text.name ≡ Some name
      → 0 < length text.conditions
      → slice_get names (conditions_before texts i) ≡ Some name
  -- the second one has _2 after that name, the third one _3, and so on
  pub later : (i j : ℕ) (text : CheckText) (name : List ℕ) → slice_get texts i ≡ Some text → text.name ≡ Some name
      → j + 1 < length text.conditions
      → slice_get names (conditions_before texts i + (j + 1)) ≡ Some (name ++ codes "_" ++ decimal (j + 2))
  -- a condition of a CHECK without a name is called CHECK_ and its place among all conditions, counted from 1
  pub unnamed : (i j : ℕ) (text : CheckText) → slice_get texts i ≡ Some text → text.name ≡ None
      → j < length text.conditions
      → slice_get names (conditions_before texts i + j)
      ≡ Some (codes "CHECK_" ++ decimal (conditions_before texts i + j + 1))

-- the checks that CHECKs declare have these names
abbrev pub ChecksAreNamed : Type 0
ChecksAreNamed =
    (columns : List (List ℕ)) (scales : List ℕ) (texts : List CheckText) (checks : List Check)
    → checks_of columns scales texts ≡ Some checks
    → AreNamed texts (map (λ (check : Check). check.name) checks)

-- if the columns' names differ, the form of one column's coefficients is its amount
abbrev pub UnitGivesTheAmount : Type 0
UnitGivesTheAmount = (columns : List (List ℕ)) (amounts : List ℤ) (name : List ℕ) → IsDistinct bytes_eq columns
    → amount_of columns amounts name ≡ form (unit_of columns name) amounts

-- ---- of extremes and grants

-- some choice of the open reservations gives the form this value
abbrev pub IsReached : List ℤ → List ℤ → List (List ℤ) → ℤ → Type 0
IsReached coeffs amounts reservations z =
    (chosen : List (List ℤ)) × Contains (sublists reservations) chosen × (form coeffs (all_changed amounts chosen) ≡ z)

-- every choice gives the form a value from the least to the greatest, and some choice gives each of the two
abbrev pub ExtremesAreReached : Type 0
ExtremesAreReached = (coeffs amounts : List ℤ) (reservations : List (List ℤ))
    → All (λ chosen. (least coeffs amounts reservations ≤ℤ form coeffs (all_changed amounts chosen))
    × (form coeffs (all_changed amounts chosen) ≤ℤ greatest coeffs amounts reservations)) (sublists reservations)
    × IsReached coeffs amounts reservations (least coeffs amounts reservations)
    × IsReached coeffs amounts reservations (greatest coeffs amounts reservations)

-- a new reservation breaks nothing of a check exactly if the row, with the new one applied, meets the check whichever
-- of the open ones are applied
abbrev pub GrantedWhereAlwaysMet : Type 0
GrantedWhereAlwaysMet = (check : Check) (amounts changes : List ℤ) (reservations : List (List ℤ))
    → (broken_by check amounts changes reservations ≡ None) ↔ AlwaysMeets check (changed amounts changes) reservations

-- a new reservation is granted exactly if this holds for every check
abbrev pub GrantedWhereAllAlwaysMet : Type 0
GrantedWhereAllAlwaysMet = (checks : List Check) (amounts changes : List ℤ) (reservations : List (List ℤ))
    → (broken checks amounts changes reservations ≡ None)
    ↔ All (λ check. AlwaysMeets check (changed amounts changes) reservations) checks

-- a new reservation moves the least and the greatest by what it adds to the form. It breaks nothing of a check exactly
-- if both are then within the limits
abbrev pub BoundsDecide : Type 0
BoundsDecide =
    (check : Check) (amounts changes : List ℤ) (reservations : List (List ℤ)) → IsCovered check.coeffs amounts
    → let low = least check.coeffs amounts reservations +ℤ form check.coeffs changes in
    let high = greatest check.coeffs amounts reservations +ℤ form check.coeffs changes in
    (least check.coeffs (changed amounts changes) reservations ≡ low)
    × (greatest check.coeffs (changed amounts changes) reservations ≡ high)
    × ((broken_by check amounts changes reservations ≡ None) ↔ (Holds check.span low × Holds check.span high))

-- if a row always meets a check, it still does after a grant
abbrev pub GrantedStaysSafe : Type 0
GrantedStaysSafe = (check : Check) (amounts changes : List ℤ) (reservations : List (List ℤ))
    → IsCovered check.coeffs amounts
    → AlwaysMeets check amounts reservations
    → broken_by check amounts changes reservations ≡ None
    → AlwaysMeets check amounts (reservations ++ changes ∷ [])

-- the value is past the limit that the span has on that side
abbrev pub IsBeyond : Span → Side → ℤ → ℤ → Type 0
IsBeyond span Low worst limit = (span.lo ≡ Some limit) × (worst <ℤ limit)
IsBeyond span High worst limit = (span.hi ≡ Some limit) × (limit <ℤ worst)

-- a refusal names the check, its scale, the side and its limit. It names a value past that limit, and some choice with
-- the new reservation gives the form that value. Both numbers are in units of the scale
abbrev pub RefusedNamesAChoice : Type 0
RefusedNamesAChoice = (check : Check) (amounts changes : List ℤ) (reservations : List (List ℤ)) (violation : Violation)
    → broken_by check amounts changes reservations ≡ Some violation
    → (violation.check ≡ check.name) × IsBeyond check.span violation.side violation.worst violation.limit
    × IsReached check.coeffs (changed amounts changes) reservations violation.worst
    × (violation.scale ≡ check.scale)

-- ---- of the ends of reservations

-- whichever of the open reservations are committed while the others stay open, the row always meets the check
abbrev pub AnyChoiceCanCommit : Type 0 → Type 0
AnyChoiceCanCommit R =
    (check : Check) (amounts : List ℤ) (changes_of : R → List ℤ) (ends : R → Bool) (reservations : List R)
    → IsCovered check.coeffs amounts
    → AlwaysMeets check amounts (map changes_of reservations)
    → AlwaysMeets check (all_changed amounts (map changes_of (filter ends reservations)))
    (map changes_of (filter (λ r. not (ends r)) reservations))

-- whichever of the open reservations are dropped while the others stay open, the row always meets the check
abbrev pub AnyChoiceCanRollBack : Type 0 → Type 0
AnyChoiceCanRollBack R =
    (check : Check) (amounts : List ℤ) (changes_of : R → List ℤ) (stays : R → Bool) (reservations : List R)
    → IsCovered check.coeffs amounts
    → AlwaysMeets check amounts (map changes_of reservations)
    → AlwaysMeets check amounts (map changes_of (filter stays reservations))

-- changes don't change the number of amounts
abbrev pub ChangesKeepTheNumber : Type 0
ChangesKeepTheNumber =
    (amounts : List ℤ) (chosen : List (List ℤ)) → length (all_changed amounts chosen) ≡ length amounts

-- ---- of other rows

-- a row that always meets a check still does with one more reservation of another row
abbrev pub OtherRowsStaySafe : Type 0
OtherRowsStaySafe = (check : Check) (amounts : List ℤ) (reservations : List (List ℤ))
    → IsCovered check.coeffs amounts
    → AlwaysMeets check amounts reservations
    → AlwaysMeets check amounts (reservations ++ [] ∷ [])

-- a new row that breaks nothing always meets the check: the open reservations are of other rows
abbrev pub NewRowIsSafe : Type 0
NewRowIsSafe = (check : Check) (amounts : List ℤ) (reservations : List (List ℤ))
    → IsCovered check.coeffs amounts
    → broken_by check amounts [] [] ≡ None
    → All (λ changes. changes ≡ []) reservations
    → AlwaysMeets check amounts reservations

-- ---- of the sums

-- no sum exceeds 128 bits, at any scales. With at most 16,384 open reservations, the form of a row is wide, and so are
-- what a new reservation adds to it and the extremes with it
abbrev pub SumsAreWide : Type 0
SumsAreWide =
    (coeffs amounts changes : List ℤ) (reservations : List (List ℤ)) → AreCoefficients coeffs → IsCovered coeffs amounts
    → All IsAmount amounts → All IsAmount changes → All (λ listed. All IsAmount listed) reservations
    → length reservations ≤ MAX_OPEN
    → IsWide (form coeffs amounts) × IsWide (form coeffs changes)
    × IsWide (least coeffs (changed amounts changes) reservations)
    × IsWide (greatest coeffs (changed amounts changes) reservations)

-- the limits of this layer, as numbers
pub record Limits : Type 0 where
  pub conditions : MAX_CHECKS ≡ 32
  pub written_coefficients : MAX_COEFFICIENT ≡ pos 1000000
  pub coefficients : MAX ≡ pos 1000000000000
  pub wide_sums : MAX_WIDE <ℤ pos (2 ^ 127)
  pub terms : MAX_LEN ≡ 10
  pub open_ones : MAX_OPEN ≡ 16384
