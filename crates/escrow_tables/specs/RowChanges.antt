-- Helps: changes of rows, in order of the rows.
use Rattle.std.specs.Prelude.{ℤ, List}
use Rattle.std.specs.declared.cmp.Ordering.{Ordering}
use Rattle.escrow_num.specs.declared.value.RowName.{RowName}
use Rattle.escrow_num.specs.Order.{row_cmp}
use Rattle.escrow_num.specs.Reservation.{deltas}
use Rattle.escrow_tables.specs.declared.changed_rows.RowChange.{RowChange}

-- the name of the row that is changed
abbrev pub row_of : RowChange → RowName
row_of change = change.reservation.now.row

-- what is added to each of its amounts
abbrev pub added_by : RowChange → List ℤ
added_by change = deltas change.reservation.now.changes

-- changes are in order of the names of their rows
abbrev pub by_row : RowChange → RowChange → Ordering
by_row a b = row_cmp (row_of a) (row_of b)
