-- Believed: what is open in a database, and the places of the rows that it reserves.
use Rattle.std.specs.Prelude.{◌≡◌, ℕ, ℤ, nat_le, length, true, false, Option, Some, None, is_some, option_map, List, [], ◌∷◌, map}
use Rattle.std.specs.List.{AllByRecursion, list_any}
use Rattle.escrow_num.specs.declared.refusal.Refusal.{Refusal}
use Rattle.escrow_num.specs.declared.refusal.Refusal.TheVariants as refusal
use Rattle.escrow_num.specs.declared.reservation.Reservation.{Reservation}
use Rattle.escrow_num.specs.declared.value.RowName.{RowName}
use Rattle.escrow_num.specs.Order.{same_row}
use Rattle.escrow_num.specs.Refusal.{refuse_if, first_refusal}
use Rattle.escrow_num.specs.Reservation.{deltas}
use Rattle.escrow_checks.specs.declared.check.Check.{Check}
use Rattle.escrow_checks.specs.Grant.{broken}
use Rattle.escrow_checks.specs.declared.spread.TheConstants.Spread.{MAX_OPEN}
use Rattle.escrow_bounds.specs.Held.{of_row, CountsAll}
use Rattle.escrow_bounds.specs.Place.{Place, checks_of}
use Rattle.escrow_bounds.specs.Bounds.{Bounds, place_at}
use Rattle.escrow_journal.specs.Open.{Open, nothing_open, grant_refusal}
use Rattle.escrow_machine.specs.Walked.{IsShort}

-- what is open, and the places
pub record Reserved : Type 0 where
  pub txns : Open
  pub places : Bounds

-- nothing is open, and no row has a place
abbrev pub nothing : Reserved
nothing = record { txns = nothing_open; places = [] }

-- each place counts exactly the open reservations of its row, and each of these changes at most as many columns as a
-- check can have coefficients
pub record AreCounted (r : Reserved) : Type 0 where
  pub counts : CountsAll r.places r.txns.reservations
  pub short : AllByRecursion IsShort r.txns.reservations

-- exactly the rows that have an open reservation have a place
abbrev pub ArePlaced : List Reservation → Bounds → Type 0
ArePlaced reservations places =
    (row : RowName) → is_some (place_at places row) ≡ list_any (λ r. same_row r.row row) reservations

-- why a session can't get changes of a row with these amounts and open reservations, by the checks of its table
abbrev pub reason_by : ℕ → List Check → List ℤ → List ℤ → List (List ℤ) → Open → Option Refusal
reason_by session checks amounts changes reservations o = first_refusal (
    refuse_if (nat_le MAX_OPEN (length reservations)) refusal.TooManyReservations
    ∷ grant_refusal session o
    ∷ option_map refusal.Check (broken checks amounts changes reservations)
    ∷ [])

-- why a session can't get changes of a row, by its place and the open reservations of it
abbrev pub reason_against : ℕ → Place → RowName → List (Option ℤ) → Open → Option Refusal
reason_against session place row changes o =
    reason_by session (checks_of place.checks) place.amounts (deltas changes) (of_row row o.reservations) o

-- the place of a row is dropped if no open reservation is of it; otherwise everything stays as it is
pub record Releases (reservations : List Reservation) (row : RowName) (old new : Bounds) : Type 0 where
  pub free : list_any (λ r. same_row r.row row) reservations ≡ false → place_at new row ≡ None
  pub reserved : list_any (λ r. same_row r.row row) reservations ≡ true → new ≡ old

-- for each reservation, the amounts in the place of its row
abbrev pub AreAmounts : Bounds → List Reservation → List (List ℤ) → Type 0
AreAmounts places reservations amounts =
    map (λ r. option_map (λ (place : Place). place.amounts) (place_at places r.row)) reservations ≡ map Some amounts
