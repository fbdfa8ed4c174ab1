-- DELETE: no open reservation is of the deleted row.
use Rattle.std.specs.Prelude.{◌≡◌, true, false, not}
use Rattle.std.proofs.Common.{ap, ◌∙◌, refl}
use Rattle.escrow_num.specs.declared.row.Row.{Row}
use Rattle.escrow_num.specs.declared.reservation.Reservation.{Reservation}
use Rattle.escrow_num.specs.declared.value.RowName.{RowName}
use Rattle.escrow_num.specs.Order.{same_row}
use Rattle.escrow_num.proofs.Items.{Has}
use Rattle.escrow_num.proofs.Orders.{row_same}
use Rattle.escrow_machine.specs.State.{State, is_reserved}
use Rattle.escrow_schema.specs.Rows.{without_row}
use Rattle.escrow_machine.specs.Valid.{IsValid}
use Rattle.escrow_machine.proofs.Kept.{any_none, kept_safe}

-- a reservation is of another row than one without reservations
pub other_row : (s : State) (name : RowName) → is_reserved s name ≡ false → (r : Reservation) → Has s.reservations r
    → (row : Row) → same_row row.name r.row ≡ true → same_row row.name name ≡ false
other_row s name free r h row same =
    ap (λ (n : RowName). same_row n name) (row_same row.name r.row same) ∙ any_none (λ (x : Reservation). same_row x.row name) s.reservations free r h

-- DELETE keeps a valid state valid
pub delete_valid : (s : State) (name : RowName) → IsValid s → is_reserved s name ≡ false → IsValid (record s { rows = without_row name s.rows })
delete_valid s name valid free = record {
  orderly = valid.orderly;
  safe_rows = kept_safe s (λ row. not (same_row row.name name)) s.catalog valid (λ row _. refl)
      (λ r h row same. ap not (other_row s name free r h row same));
}
