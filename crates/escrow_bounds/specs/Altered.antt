-- Believed: how places change when the checks of their table are altered.
use Rattle.std.specs.Prelude.{◌≡◌, ℕ, ℤ, true, false, Option, Some, None, List, bytes_eq, remove}
use Rattle.escrow_num.specs.declared.reservation.Reservation.{Reservation}
use Rattle.escrow_num.specs.declared.value.RowName.{RowName}
use Rattle.escrow_checks.specs.declared.check.Check.{Check}
use Rattle.escrow_bounds.specs.Counts.{Counts}
use Rattle.escrow_bounds.specs.Held.{of_row}
use Rattle.escrow_bounds.specs.Place.{Place, checks_of}
use Rattle.escrow_bounds.specs.Bounds.{Bounds, place_at}

-- if there was a place, there still is one, which follows from the old one by Step; if there was none, there is none
abbrev pub Goes : (Place → Place → Type 0) → Option Place → Option Place → Type 0
Goes Step None after = after ≡ None
Goes Step (Some old) after = (new : Place) × (after ≡ Some new) × Step old new

-- the places of a table's rows follow from the old ones by each row's Step, and those of other tables stay as they are
pub record TableGoes (table : List ℕ) (Step : RowName → Place → Place → Type 0) (old new : Bounds) : Type 0 where
  pub own : (row : RowName) → bytes_eq row.table table ≡ true → Goes (Step row) (place_at old row) (place_at new row)
  pub others : (row : RowName) → bytes_eq row.table table ≡ false → place_at new row ≡ place_at old row

-- a place without the check at an index: it counts each list that the old one counted
pub record IsWithout (index : ℕ) (old new : Place) : Type 0 where
  pub amounts : new.amounts ≡ old.amounts
  pub checks : checks_of new.checks ≡ remove (checks_of old.checks) index
  pub counts : (reservations : List (List ℤ)) → Counts old reservations → Counts new reservations

-- a place with the amounts of the old one, over these checks, counts these reservations
pub record IsOver (checks : List Check) (reservations : List (List ℤ)) (old new : Place) : Type 0 where
  pub amounts : new.amounts ≡ old.amounts
  pub checks_are : checks_of new.checks ≡ checks
  pub counts : Counts new reservations

-- an addition has a place for each row of a table that has one, over these checks, which counts the held reservations
-- of the row; and it has no others
pub record ArePrepared (table : List ℕ) (checks : List Check) (held : List Reservation)
    (places addition : Bounds) : Type 0 where
  pub own : (row : RowName) → bytes_eq row.table table ≡ true
      → Goes (IsOver checks (of_row row held)) (place_at places row) (place_at addition row)
  pub others : (row : RowName) → bytes_eq row.table table ≡ false → place_at addition row ≡ None

-- how an addition changes a place that exists: it replaces the place if it has one for the row
abbrev pub adopted : Option Place → Option Place → Option Place
adopted None old = old
adopted (Some place) None = None
adopted (Some place) (Some old) = Some place

-- each place is replaced by the addition's place for its row, or stays if there is none
abbrev pub Adopts : Bounds → Bounds → Bounds → Type 0
Adopts addition old new = (row : RowName) → place_at new row ≡ adopted (place_at addition row) (place_at old row)
