-- Believed: what SHOW BOUNDS shows.
use Rattle.std.specs.Prelude.{ℕ, ℤ, option_map, option_and_then, unwrap_or, List, [], map}
use Rattle.escrow_num.specs.declared.reservation.Reservation.{Reservation}
use Rattle.escrow_num.specs.declared.value.RowName.{RowName}
use Rattle.escrow_statement.specs.declared.statement.RowText.{RowText}
use Rattle.escrow_checks.specs.declared.check.Check.{Check}
use Rattle.escrow_checks.specs.Checks.{unit_of}
use Rattle.escrow_checks.specs.Condition.{amount_of}
use Rattle.escrow_checks.specs.Extremes.{least, greatest}
use Rattle.escrow_schema.specs.Catalog.{table_named}
use Rattle.escrow_schema.specs.Column.{names_of, reservables, scale_of}
use Rattle.escrow_schema.specs.declared.column.Column.{Column}
use Rattle.escrow_schema.specs.declared.table.TableDef.{TableDef}
use Rattle.escrow_schema.specs.Print.{declared_checks}
use Rattle.escrow_machine.specs.declared.reply.CheckBounds.{CheckBounds}
use Rattle.escrow_machine.specs.declared.reply.ColumnBounds.{ColumnBounds}
use Rattle.escrow_machine.specs.declared.reply.Reply.{Reply}
use Rattle.escrow_machine.specs.declared.reply.Reply.TheVariants as reply
use Rattle.escrow_machine.specs.Asked.{named_by}
use Rattle.escrow_machine.specs.State.{State}
use Rattle.escrow_num.specs.Reservation.{changes_at}
use Rattle.escrow_schema.specs.Rows.{row_named}

-- what SHOW BOUNDS shows of a RESERVABLE column: its committed amount, and the least and the greatest value that it can
-- have, whichever of the open reservations are applied; all in units of its scale
abbrev pub column_bounds : List (List ℕ) → List ℤ → List (List ℤ) → Column → ColumnBounds
column_bounds names amounts reservations column = record {
  column = column.name;
  scale = scale_of column.kind;
  value = amount_of names amounts column.name;
  inf = least (unit_of names column.name) amounts reservations;
  sup = greatest (unit_of names column.name) amounts reservations;
}

-- what SHOW BOUNDS shows of a check: the least and the greatest value of its form, and its limits; all in units of its
-- scale
abbrev pub check_bounds : List ℤ → List (List ℤ) → Check → CheckBounds
check_bounds amounts reservations check = record {
  check = check.name;
  scale = check.scale;
  least = least check.coeffs amounts reservations;
  greatest = greatest check.coeffs amounts reservations;
  limits = check.span;
}

-- what SHOW BOUNDS shows of a row with these amounts: each RESERVABLE column and each declared check, over every choice
-- of these reservations
abbrev pub bounds_over : List (List ℤ) → TableDef → List ℤ → Reply
bounds_over reservations table amounts =
    let columns = reservables table.columns in
    reply.Bounds (map (column_bounds (names_of columns) amounts reservations) columns)
    (map (check_bounds amounts reservations) (declared_checks table))

-- what SHOW BOUNDS shows of the row of a name, with these amounts, over every choice of the open reservations of all
-- sessions
abbrev pub bounds_in : List Reservation → TableDef → RowName → List ℤ → Reply
bounds_in open_ones table name amounts = bounds_over (map (changes_at name) open_ones) table amounts

-- what a SHOW BOUNDS shows of the row that it names
abbrev pub bounds_reply : State → RowText → Reply
bounds_reply s text =
    unwrap_or (option_and_then
    (λ table. option_map (λ row. bounds_in s.reservations table row.name row.amounts)
    (row_named s.rows (named_by s.catalog text.table text.row))) (table_named s.catalog text.table))
    (reply.Bounds [] [])
