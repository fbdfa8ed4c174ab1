-- What DROP TABLE, ALTER TABLE, DELETE and an UPDATE of plain values change; no reservation loses its row.
use Rattle.std.specs.Prelude.{◌≡◌, false, not, Option, Some, None, List, length, IsSome, IsSomeAnd}
use Rattle.std.proofs.Common.{refl, ap, ◌∙◌}
use Rattle.std.proofs.lemmas.Bool.{false_from_ne_true}
use Rattle.escrow_num.specs.declared.reservation.Reservation.{Reservation}
use Rattle.escrow_num.specs.declared.row.Row.{Row}
use Rattle.escrow_num.specs.declared.value.RowName.{RowName}
use Rattle.escrow_num.specs.Order.{same_row}
use Rattle.escrow_num.proofs.Items.{all_has, has_all}
use Rattle.escrow_num.proofs.Orders.{row_same}
use Rattle.escrow_schema.specs.declared.table.TableDef.{TableDef}
use Rattle.escrow_schema.specs.Catalog.{table_named}
use Rattle.escrow_schema.specs.Column.{reservables}
use Rattle.escrow_machine.specs.Laws.{ReservationsKeepRows}
use Rattle.escrow_schema.specs.Rows.{row_named, without_row}
use Rattle.escrow_machine.specs.Step.{step}
use Rattle.escrow_machine.specs.Valid.{IsReservationIn, HasRow}
use Rattle.escrow_machine.proofs.Kept.{find_filter}
use Rattle.escrow_machine.proofs.LawsSteps.{step_keeps_valid}

-- DELETE
rows_differ : (other name : RowName) → ¬ (other ≡ name) → same_row other name ≡ false
rows_differ other name differ = false_from_ne_true (same_row other name) (λ t. differ (row_same other name t))

-- another row is found as before
pub other_found : (rows : List Row) (name other : RowName) → ¬ (other ≡ name) → row_named (without_row name rows) other ≡ row_named rows other
other_found rows name other differ =
    find_filter (λ (r : Row). same_row r.name other) (λ (r : Row). not (same_row r.name name)) rows
    (λ r same. ap not (ap (λ (n : RowName). same_row n name) (row_same r.name other same) ∙ rows_differ other name differ))

-- OPEN RESERVATIONS
some_there : {A : Type 0} (P : A → Type 0) (o : Option A) → IsSomeAnd o P → IsSome o
some_there P None h = absurd h
some_there P (Some x) h = refl

pub reservations_keep_rows : ReservationsKeepRows
reservations_keep_rows s session asked valid of_session =
    let new = (step s session asked).1 in
    let still = step_keeps_valid s session asked valid of_session in
    has_all (λ (r : Reservation). IsSome (row_named new.rows r.row) × IsSome (table_named new.catalog r.row.table)) new.reservations (λ r h. (
      all_has (HasRow new.rows) new.reservations still.safe_rows.reserved_rows r h,
      some_there (λ (t : TableDef). length r.changes ≡ length (reservables t.columns)) (table_named new.catalog r.row.table)
          (all_has (IsReservationIn new.catalog new.next_id) new.reservations still.orderly.reservations_in r h).changes,
    ))
