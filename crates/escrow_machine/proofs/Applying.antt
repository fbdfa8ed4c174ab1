-- The changes that reservations make to rows, one reservation after another.
use Rattle.std.proofs.Common.{◌≡◌, List, [], ◌∷◌, refl, ap, true}
use Rattle.escrow_num.specs.declared.row.Row.{Row}
use Rattle.escrow_num.specs.declared.value.RowName.{RowName}
use Rattle.escrow_num.specs.declared.reservation.Reservation.{Reservation}
use Rattle.escrow_num.specs.Reservation.{deltas, changes_at}
use Rattle.escrow_schema.specs.Rows.{applied}
use Rattle.escrow_num.specs.Order.{same_row}

-- applying no reservation leaves the rows unchanged
pub applied_none : (rows : List Row) → applied rows [] ≡ rows
applied_none [] = refl
applied_none (row ∷ rows) = ap (λ rest. row ∷ rest) (applied_none rows)

-- a reservation changes its own row
pub changes_own : (name : RowName) (r : Reservation) → same_row name r.row ≡ true → changes_at name r ≡ deltas r.changes
changes_own name r same = rw same refl
