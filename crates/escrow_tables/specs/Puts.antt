-- Helps: what COMMIT writes into rows.
use Rattle.std.specs.Prelude.{◌≡◌, ℤ, true, Some, List, map}
use Rattle.std.specs.List.{AllByRecursion, list_any}
use Rattle.escrow_num.specs.declared.reservation.Reservation.{Reservation}
use Rattle.escrow_num.specs.declared.row.Row.{Row}
use Rattle.escrow_num.specs.declared.value.RowName.{RowName}
use Rattle.escrow_num.specs.Order.{same_row}
use Rattle.escrow_num.specs.Reservation.{changes_at}
use Rattle.escrow_checks.specs.Form.{all_changed}
use Rattle.escrow_rows.specs.declared.amounts.NewAmounts.{NewAmounts}
use Rattle.escrow_schema.specs.declared.stored.StoredTable.{StoredTable}
use Rattle.escrow_schema.specs.Rows.{row_named, replaced, row_after}
use Rattle.escrow_rows.specs.Changes.{Stands, name_in}

-- the name of the row to which new amounts belong
abbrev pub row_put : NewAmounts → RowName
row_put new = name_in new.table.now new.key.now

-- there are new amounts for the row of a reservation
abbrev pub IsFor : List NewAmounts → Reservation → Type 0
IsFor news r = list_any (λ new. same_row r.row (row_put new)) news ≡ true

-- new amounts are for tables that exist, and there are some for each reservation's row
pub record ArePuts (tables : List StoredTable) (reservations : List Reservation) (news : List NewAmounts) : Type 0 where
  pub stand : AllByRecursion (λ new. Stands tables new.table.now) news
  pub rows : AllByRecursion (IsFor news) reservations

-- the amounts of the row of a name after reservations have changed them
abbrev pub changed_by : List Reservation → RowName → List ℤ → List ℤ
changed_by reservations name before = all_changed before (map (changes_at name) reservations)

-- new amounts are those that reservations give to their row
abbrev pub TellsPut : List Row → List Reservation → NewAmounts → Type 0
TellsPut rows reservations new =
    (row : Row) → row_named rows (row_put new) ≡ Some row
    → replaced new.amounts row.amounts ≡ (row_after reservations row).amounts
