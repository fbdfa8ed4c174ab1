-- Believed: the rows that a store holds, read from its cells.
use Rattle.std.specs.Prelude.{ℤ, pos, ◌+ℤ◌, Option, option_map, option_and_then, unwrap_or, List, [], ◌∷◌, find, if◌then◌else◌}
use Rattle.std.specs.List.{flat_map}
use Rattle.std.specs.Option.{option_to_list}
use Rattle.sqlite_value.specs.declared.value.Value.{Value as Sql}
use Rattle.sqlite_value.specs.declared.value.Value.TheVariants as sql
use Rattle.sqlite_value.specs.Order.{Row as SqlRow, column}
use Rattle.sqlite.specs.Effect.{Database}
use Rattle.escrow_num.specs.declared.row.Row.{Row}
use Rattle.escrow_num.specs.declared.value.Value.{Value}
use Rattle.escrow_num.specs.declared.value.Value.TheVariants.{Number, Text}
use Rattle.escrow_schema.specs.declared.column.Column.{Column}
use Rattle.escrow_schema.specs.Fit.{row_with}
use Rattle.escrow_cells.specs.Step.{same, is_at}
use Rattle.escrow_cells.specs.Store.{cells}
use Rattle.escrow_schema.specs.declared.stored.StoredTable.{StoredTable}
use Rattle.escrow_schema.specs.Rows.{with_row}

-- the value that SQLite stores; what no column can hold is read as zero
abbrev pub value_kept : Sql → Value
value_kept (sql.Int z) = Number z
value_kept (sql.Text t) = Text t
value_kept _ = Number (pos 0)

-- the value in the cell at a place of the row of a key; zero if there is no such cell
abbrev pub kept_at : List SqlRow → ℤ → Sql → ℤ → Value
kept_at all id key place =
    unwrap_or (option_map (λ cell. value_kept (column cell 3)) (find (is_at (sql.Int id) key (sql.Int place)) all))
    (Number (pos 0))

-- the values of columns in the row of a key, the first column at a given place
abbrev pub kept_from : List SqlRow → ℤ → Sql → ℤ → List Column → List Value
kept_from all id key place [] = []
kept_from all id key place (c ∷ cs) = kept_at all id key place ∷ kept_from all id key (place +ℤ pos 1) cs

-- the table of a number
abbrev pub stored_numbered : List StoredTable → Sql → Option StoredTable
stored_numbered tables id = find (λ s. same (sql.Int s.id) id) tables

-- the row that has a cell, if this is the first of its cells
abbrev pub row_at : List StoredTable → List SqlRow → SqlRow → List Row
row_at tables all cell =
    if same (column cell 2) (sql.Int (pos 1))
    then option_to_list (option_and_then
    (λ s. row_with s.table (kept_from all s.id (column cell 1) (pos 1) s.table.columns))
    (stored_numbered tables (column cell 0)))
    else []

-- rows sorted by inserting each among those after it
abbrev pub sorted_rows : List Row → List Row
sorted_rows [] = []
sorted_rows (row ∷ rows) = with_row row (sorted_rows rows)

-- THE ROWS OF A STORE: a row for each cell at the first place, in order of table and key. A law (TheRowsOfAnImage) says
-- that these are the rows of which the store is the image.
abbrev pub rows_in : List StoredTable → Database → List Row
rows_in tables db = sorted_rows (flat_map (row_at tables (cells db)) (cells db))
