-- Helps: an addition while it is filled.
use Rattle.std.specs.Prelude.{◌≡◌, ℕ, Some, true, List, bytes_eq, filter}
use Rattle.escrow_num.specs.declared.reservation.Reservation.{Reservation}
use Rattle.escrow_num.specs.declared.value.RowName.{RowName}
use Rattle.escrow_checks.specs.declared.check.Check.{Check}
use Rattle.escrow_bounds.specs.Held.{CountsAll}
use Rattle.escrow_bounds.specs.Place.{Place, checks_of}
use Rattle.escrow_bounds.specs.Bounds.{Bounds, place_at}

-- those of the reservations that are of a table
abbrev pub of_table : List ℕ → List Reservation → List Reservation
of_table table held = filter (λ r. bytes_eq r.row.table table) held

-- a place of a row is over these checks, and has the amounts that the row's place among other places has
pub record IsCopied (table : List ℕ) (checks : List Check) (places : Bounds) (row : RowName)
    (place : Place) : Type 0 where
  pub within : bytes_eq row.table table ≡ true
  pub copied : Place
  pub found : place_at places row ≡ Some copied
  pub amounts : place.amounts ≡ copied.amounts
  pub checks_are : checks_of place.checks ≡ checks

-- places of a table's rows, copied like this, count the reservations that are of the table
pub record AreFilled (table : List ℕ) (checks : List Check) (held : List Reservation)
    (places filled : Bounds) : Type 0 where
  pub counts : CountsAll filled (of_table table held)
  pub each : (row : RowName) (place : Place) → place_at filled row ≡ Some place → IsCopied table checks places row place
