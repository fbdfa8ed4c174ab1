-- Believed: the statements of the laws in src/laws.rt.
use Rattle.std.specs.Prelude.{◌≡◌, ℕ, ℤ, Bool, true, false, not, Some, None, IsSome, List, [], ◌∷◌, ◌++◌, map, filter}
use Rattle.std.specs.List.{AllByRecursion}
use Rattle.escrow_num.specs.declared.reservation.Reservation.{Reservation}
use Rattle.escrow_num.specs.declared.session.End.{End}
use Rattle.escrow_num.specs.declared.value.RowName.{RowName}
use Rattle.escrow_num.specs.Reservation.{deltas, changes_at}
use Rattle.escrow_checks.specs.declared.check.Check.{Check}
use Rattle.escrow_checks.specs.Extremes.{least, greatest}
use Rattle.escrow_checks.specs.Form.{IsCovered}
use Rattle.escrow_checks.specs.Grant.{broken}
use Rattle.escrow_bounds.specs.Altered.{TableGoes, IsOver, IsWithout, ArePrepared, Adopts}
use Rattle.escrow_bounds.specs.Counts.{is_counting, IsNew, TakesIn, GivesBack}
use Rattle.escrow_bounds.specs.Held.{of_row, CountsAll, AllCount}
use Rattle.escrow_bounds.specs.Place.{Place}
use Rattle.escrow_bounds.specs.Bounds.{Bounds, place_at, OthersStay, Becomes}

-- ---- what a place counts is enough

-- the grant rule over all open reservations gives the same as over those of the row
abbrev pub SameGrantRule : Type 0
SameGrantRule =
    (checks : List Check) (amounts changes : List ℤ) (row : RowName) (held : List Reservation)
    → AllByRecursion (λ (check : Check). IsCovered check.coeffs amounts) checks
    → broken checks amounts changes (map (changes_at row) held) ≡ broken checks amounts changes (of_row row held)

-- the extremes of a form do too
abbrev pub SameExtremes : Type 0
SameExtremes =
    (coeffs amounts : List ℤ) (row : RowName) (held : List Reservation) → IsCovered coeffs amounts
    → (least coeffs amounts (map (changes_at row) held) ≡ least coeffs amounts (of_row row held))
    × (greatest coeffs amounts (map (changes_at row) held) ≡ greatest coeffs amounts (of_row row held))

-- ---- every list of calls: places count exactly what is open, by the clauses of each call

-- with no places, nothing is open
abbrev pub NothingCounts : Type 0
NothingCounts = CountsAll [] []

-- `reserve` doesn't change what is counted: a new place counts nothing, and its row has nothing open
abbrev pub ReserveCounts : Type 0
ReserveCounts =
    (old new : Bounds) (row : RowName) (amounts : List ℤ) (checks : List Check) (held : List Reservation)
    → CountsAll old held
    → (IsSome (place_at old row) → new ≡ old)
    → (place_at old row ≡ None → (place : Place) × (place_at new row ≡ Some place) × IsNew amounts checks place)
    → OthersStay row old new → CountsAll new held

-- `add` counts one more, at any place among the others
abbrev pub AddCounts : Type 0
AddCounts =
    (old new : Bounds) (r : Reservation) (before after : List Reservation) → CountsAll old (before ++ after)
    → IsSome (place_at old r.row)
    → Becomes (TakesIn (deltas r.changes)) (place_at old r.row) (place_at new r.row)
    → OthersStay r.row old new → CountsAll new (before ++ r ∷ after)

-- `remove` counts one less, in any order of ends
abbrev pub RemoveCounts : Type 0
RemoveCounts =
    (end : End) (old new : Bounds) (r : Reservation) (before after : List Reservation)
    → CountsAll old (before ++ r ∷ after)
    → Becomes (GivesBack end (deltas r.changes)) (place_at old r.row) (place_at new r.row)
    → OthersStay r.row old new → CountsAll new (before ++ after)

-- `release` drops no place that counts
abbrev pub ReleaseCounts : Type 0
ReleaseCounts =
    (old new : Bounds) (row : RowName) (held : List Reservation) → CountsAll old held
    → (is_counting (place_at old row) ≡ false → place_at new row ≡ None)
    → (is_counting (place_at old row) ≡ true → new ≡ old)
    → OthersStay row old new → CountsAll new held

-- ---- a table's checks are altered

-- `adopt` doesn't change what is counted, and neither does the addition: after it the table's places are over its
-- checks
abbrev pub AdoptCounts : Type 0
AdoptCounts =
    (table : List ℕ) (checks : List Check) (held : List Reservation) (old addition new : Bounds) → CountsAll old held
    → AllCount old
    → ArePrepared table checks held old addition → Adopts addition old new
    → CountsAll new held × AllCount new × TableGoes table (λ row. IsOver checks (of_row row held)) old new

-- `drop_check` doesn't change what is counted
abbrev pub DropCheckCounts : Type 0
DropCheckCounts =
    (table : List ℕ) (index : ℕ) (held : List Reservation) (old new : Bounds) → CountsAll old held → AllCount old
    → TableGoes table (λ row. IsWithout index) old new
    → CountsAll new held × AllCount new

-- ---- the order in which reservations are counted

-- those that pass a test may be counted before the others
abbrev pub PartsCount : Type 0
PartsCount =
    (test : Reservation → Bool) (places : Bounds) (held : List Reservation) → CountsAll places held
    → CountsAll places (filter test held ++ filter (λ r. not (test r)) held)
