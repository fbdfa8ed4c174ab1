-- Coefficients in an array of fixed length, with zeros after them.
use Rattle.std.proofs.Common.{◌≡◌, ℕ, suc, ◌+◌, ◌-◌, ◌≤◌, ◌<◌, ℤ, pos, List, [], ◌∷◌, ◌++◌, length, take, set, get_or, replicate, ap, ap₂, ◌∙◌, sym, subst, arith, append_assoc, length-append}
use Rattle.std.specs.Prelude.{slice_set, All, if◌then◌else◌, Bool, true, false, ◌&&◌, int_le, neg_ℤ, map}
use Rattle.std.specs.List.{list_all}
use Rattle.std.proofs.lemmas.Int.{ints}
use Rattle.std.proofs.lemmas.Bool.{and_parts}
use Rattle.std.proofs.lemmas.List.Folds.{list_all-map, list_all_at, list_all_more}
use Rattle.std.proofs.lemmas.List.{length-map, length-replicate, length-set, length-take-le, map-append, replicate-append-replicate, set-append_left, take_more, take_all}
use Rattle.std.proofs.lemmas.List.Elements.{All-append, All-set, All-replicate, All-nil, All-cons}
use Rattle.std.proofs.Math.Seq.{set-append_seam, take-append_seam}
use Rattle.escrow_checks.specs.Checks.{unit_of, is_coefficient}
use Rattle.escrow_checks.specs.Coefficients.{IsCoefficient, AreCoefficients}
use Rattle.escrow_checks.specs.Padded.{padded}
use Rattle.escrow_checks.specs.declared.condition.TheConstants.{MAX_COEFFICIENT}
use Rattle.escrow_checks.specs.declared.coefficients.TheConstants.Coefficients.{MAX_LEN}

-- what an array of these coefficients keeps and shows
pub record Keeps (coeffs values : List ℤ) (len : ℕ) : Type 0 where
  pub shown : take len values ≡ coeffs
  pub are : AreCoefficients (take len values)
  pub few : len ≤ MAX_LEN
  pub whole : values ≡ padded (take len values)

-- the invariant of the type follows
pub invariant_kept : (coeffs values : List ℤ) (len : ℕ) → Keeps coeffs values len → AreCoefficients (take len values) × (len ≤ MAX_LEN) × (values ≡ padded (take len values))
invariant_kept coeffs values len known = (known.are, known.few, known.whole)

pub kept : (coeffs values : List ℤ) (len : ℕ) → len ≡ length coeffs → AreCoefficients coeffs → values ≡ padded coeffs → Keeps coeffs values len
kept coeffs values len is are whole =
    let shown : take len values ≡ coeffs = ap₂ (λ (n : ℕ) (vs : List ℤ). take n vs) is whole ∙ take-append_seam coeffs (replicate (MAX_LEN - length coeffs) (pos 0)) in
    record { shown = shown; are = rw shown are; few = omega (arith, are.0); whole = whole ∙ ap padded (sym shown) }

one_or_zero : (b : Bool) → IsCoefficient (if b then pos 1 else pos 0)
one_or_zero true = (omega (arith, ints), omega (arith, ints))
one_or_zero false = (omega (arith, ints), omega (arith, ints))

-- ---- the coefficients of a single column

pub unit_kept : (len place : ℕ) (zero one : ℤ) → zero ≡ pos 0 → one ≡ pos 1 → place < len → len ≤ MAX_LEN
    → Keeps (slice_set (replicate len (pos 0)) place (pos 1)) (set (replicate MAX_LEN zero) place one) len
unit_kept len place zero one is_zero is_one within few =
    let front = replicate len (pos 0) in
    let unit = set front place (pos 1) in
    let as_long : length unit ≡ len = length-set front place (pos 1) ∙ length-replicate len (pos 0) in
    let all : All IsCoefficient unit = All-set IsCoefficient front place (pos 1) (one_or_zero true) (All-replicate IsCoefficient len (pos 0) (one_or_zero false)) in
    let long : MAX_LEN ≡ len + (MAX_LEN - len) = omega arith in
    let split : replicate MAX_LEN (pos 0) ≡ front ++ replicate (MAX_LEN - len) (pos 0) = ap (λ n. replicate n (pos 0)) long ∙ sym (replicate-append-replicate len (MAX_LEN - len) (pos 0)) in
    let whole : set (replicate MAX_LEN (pos 0)) place (pos 1) ≡ padded unit =
    ap (λ zs. set zs place (pos 1)) split
    ∙ set-append_left front (replicate (MAX_LEN - len) (pos 0)) place (pos 1) (omega (arith, length-replicate len (pos 0)))
    ∙ ap (λ n. unit ++ replicate (MAX_LEN - n) (pos 0)) (sym as_long) in
    let known = kept unit (set (replicate MAX_LEN (pos 0)) place (pos 1)) len (sym as_long) (omega (arith, as_long), all) whole in
    subst (λ z. Keeps unit (set (replicate MAX_LEN z) place one) len) (sym is_zero) (subst (λ o. Keeps unit (set (replicate MAX_LEN (pos 0)) place o) len) (sym is_one) known)

pub length-unit_of : (columns : List (List ℕ)) (name : List ℕ) → length (unit_of columns name) ≡ length columns
length-unit_of columns name = length-map columns _

-- one more coefficient is written
padded-more : (coeffs : List ℤ) (c : ℤ) → length coeffs < MAX_LEN → set (padded coeffs) (length coeffs) c ≡ padded (coeffs ++ c ∷ [])
padded-more coeffs c room =
    let rest = replicate (MAX_LEN - (length coeffs + 1)) (pos 0) in
    let long : MAX_LEN - length coeffs ≡ suc (MAX_LEN - (length coeffs + 1)) = omega arith in
    ap (λ n. set (coeffs ++ replicate n (pos 0)) (length coeffs) c) long
    ∙ set-append_seam coeffs (pos 0) rest c
    ∙ sym (ap (λ n. (coeffs ++ c ∷ []) ++ replicate (MAX_LEN - n) (pos 0)) (length-append coeffs (c ∷ [])) ∙ append_assoc coeffs (c ∷ []) rest)

-- one more coefficient is written, computed from its column
pub mapped-more : (f : List ℕ → ℤ) (columns : List (List ℕ)) (column : List ℕ) (i : ℕ) (c : ℤ) → i < length columns → length columns ≤ MAX_LEN → column ≡ get_or columns i column → c ≡ f column
    → set (padded (map f (take i columns))) i c ≡ padded (map f (take (i + 1) columns))
mapped-more f columns column i c below few is same =
    let front = map f (take i columns) in
    let at : length front ≡ i = length-map (take i columns) f ∙ length-take-le i columns (omega arith) in
    let more : map f (take (i + 1) columns) ≡ front ++ c ∷ [] =
    ap (map f) (take_more columns i column below ∙ ap (λ x. take i columns ++ x ∷ []) (sym is)) ∙ map-append f (take i columns) (column ∷ []) ∙ ap (λ z. front ++ z ∷ []) (sym same) in
    ap (λ n. set (padded front) n c) (sym at) ∙ padded-more front c (omega (arith, at)) ∙ ap padded (sym more)

-- ---- the coefficients of a list, written one by one

pub taken-more : (xs : List ℤ) (i : ℕ) (c : ℤ) → i < length xs → length xs ≤ MAX_LEN → c ≡ get_or xs i c → set (padded (take i xs)) i c ≡ padded (take (i + 1) xs)
taken-more xs i c below few is =
    let at : length (take i xs) ≡ i = length-take-le i xs (omega arith) in
    let more : take (i + 1) xs ≡ take i xs ++ c ∷ [] = take_more xs i c below ∙ ap (λ x. take i xs ++ x ∷ []) (sym is) in
    ap (λ n. set (padded (take i xs)) n c) (sym at) ∙ padded-more (take i xs) c (omega (arith, at)) ∙ ap padded (sym more)

pub All-taken : (xs : List ℤ) (i : ℕ) (c : ℤ) → i < length xs → c ≡ get_or xs i c → IsCoefficient c → All IsCoefficient (take i xs) → All IsCoefficient (take (i + 1) xs)
All-taken xs i c below is one all =
    let more : take (i + 1) xs ≡ take i xs ++ c ∷ [] = take_more xs i c below ∙ ap (λ x. take i xs ++ x ∷ []) (sym is) in
    subst (λ ys. All IsCoefficient ys) (sym more) (All-append IsCoefficient (take i xs) (c ∷ []) all (All-cons IsCoefficient c [] one (All-nil IsCoefficient)))

pub taken_kept : (xs values : List ℤ) (i len : ℕ) → length xs ≤ i → len ≡ length xs → length xs ≤ MAX_LEN → All IsCoefficient (take i xs) → values ≡ padded (take i xs) → Keeps xs values len
taken_kept xs values i len past is few all whole =
    let every : take i xs ≡ xs = take_all i xs past in
    kept xs values len is (few, subst (λ ys. All IsCoefficient ys) every all) (whole ∙ ap padded every)

-- all are written, for a list as long as the coefficients that it is made from
pub all_kept : (coeffs slice xs values : List ℤ) (i : ℕ) → slice ≡ coeffs → length xs ≡ length coeffs → length slice ≤ MAX_LEN → length slice ≤ i
    → All IsCoefficient (take i xs) → values ≡ padded (take i xs) → Keeps xs values (length slice)
all_kept coeffs slice xs values i is long few past all whole =
    let as_long : length slice ≡ length xs = ap length is ∙ sym long in
    taken_kept xs values i (length slice) (omega (arith, as_long)) as_long (omega (arith, as_long)) all whole

-- ---- coefficients computed from their columns

mapped_kept : (f : List ℕ → ℤ) (columns : List (List ℕ)) (values : List ℤ) (i : ℕ) → i ≡ length columns → length columns ≤ MAX_LEN → All IsCoefficient (map f columns) → values ≡ padded (map f (take i columns))
    → Keeps (map f columns) values (length columns)
mapped_kept f columns values i is few all whole =
    let as_long = length-map columns f in
    kept (map f columns) values (length columns) (sym as_long) (omega (arith, as_long), all)
    (whole ∙ ap (λ (names : List (List ℕ)). padded (map f names)) (take_all i columns (omega arith)))

-- ---- summed coefficients within the greatest magnitude

-- one more coefficient is within it
pub small-more : (f : List ℕ → ℤ) (columns : List (List ℕ)) (column : List ℕ) (i : ℕ) → i < length columns → column ≡ get_or columns i column
    → list_all is_coefficient (map f (take i columns)) ≡ true → is_coefficient (f column) ≡ true → list_all is_coefficient (map f (take (i + 1) columns)) ≡ true
small-more f columns column i below is before here =
    list_all-map is_coefficient f (take (i + 1) columns)
    ∙ list_all_more (λ name. is_coefficient (f name)) columns i column below
    ∙ ap₂ (λ (a b : Bool). a && b) (sym (list_all-map is_coefficient f (take i columns)) ∙ before) (ap (λ name. is_coefficient (f name)) (sym is) ∙ here)

-- one coefficient is beyond it
pub small-not : (f : List ℕ → ℤ) (columns : List (List ℕ)) (column : List ℕ) (i : ℕ) → i < length columns → column ≡ get_or columns i column
    → is_coefficient (f column) ≡ false → list_all is_coefficient (map f columns) ≡ false
small-not f columns column i below is past =
    list_all-map is_coefficient f columns
    ∙ list_all_at (λ name. is_coefficient (f name)) columns i column below (ap (λ name. is_coefficient (f name)) (sym is) ∙ past)

-- the greatest magnitude of a summed coefficient is at most that of any coefficient
small_is : (c : ℤ) → is_coefficient c ≡ true → IsCoefficient c
small_is c small =
    let parts = and_parts (int_le (neg_ℤ MAX_COEFFICIENT) c) (int_le c MAX_COEFFICIENT) small in
    (grind (arith, ints, parts.0), grind (arith, ints, parts.1))

All-small : (coeffs : List ℤ) → list_all is_coefficient coeffs ≡ true → All IsCoefficient coeffs
All-small [] small = All-nil IsCoefficient
All-small (c ∷ cs) small =
    let parts = and_parts (is_coefficient c) (list_all is_coefficient cs) small in
    All-cons IsCoefficient c cs (small_is c parts.0) (All-small cs parts.1)

pub summed_kept : (f : List ℕ → ℤ) (columns : List (List ℕ)) (values : List ℤ) (i : ℕ) → i ≡ length columns → length columns ≤ MAX_LEN → list_all is_coefficient (map f (take i columns)) ≡ true → values ≡ padded (map f (take i columns))
    → Keeps (map f columns) values (length columns) × (list_all is_coefficient (map f columns) ≡ true)
summed_kept f columns values i is few small whole =
    let all : list_all is_coefficient (map f columns) ≡ true = sym (ap (λ (names : List (List ℕ)). list_all is_coefficient (map f names)) (take_all i columns (omega arith))) ∙ small in
    (mapped_kept f columns values i is few (All-small (map f columns) all) whole, all)
