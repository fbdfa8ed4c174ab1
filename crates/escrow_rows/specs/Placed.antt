-- Helps: what private contracts say of cells that are read. No contract of a public call uses it.
use Rattle.std.specs.Prelude.{◌≡◌, ◌≢◌, ℕ, pos, ◌+◌, Option, Some, None, option_map, List, [], ◌∷◌, map, take, drop}
use Rattle.sqlite_value.specs.declared.value.Value.TheVariants as sql
use Rattle.sqlite_value.specs.Order.{Row as SqlRow}
use Rattle.escrow_num.specs.declared.row.Row.{Row}
use Rattle.escrow_num.specs.declared.value.Value.{Value}
use Rattle.escrow_schema.specs.declared.table.TableDef.{TableDef}
use Rattle.escrow_schema.specs.Fit.{values_of}
use Rattle.sqlite.specs.Effect.{Database}
use Rattle.escrow_schema.specs.Rows.{row_named}
use Rattle.escrow_schema.specs.declared.stored.StoredTable.{StoredTable}
use Rattle.escrow_rows.specs.Answers.{Tells}
use Rattle.escrow_rows.specs.Changes.{name_in}
use Rattle.escrow_rows.specs.Image.{stored}

-- values, each with its place, the first at a given place
abbrev pub placed : ℕ → List Value → List SqlRow
placed place [] = []
placed place (v ∷ vs) = (sql.Int (pos place) ∷ stored v ∷ []) ∷ placed (place + 1) vs

-- the same, each also with the key of its row
abbrev pub keyed : Value → ℕ → List Value → List SqlRow
keyed key place values = map (λ cell. stored key ∷ cell) (placed place values)

-- the cells of a row of a table, each with its key, its place and its value
abbrev pub keyed_cells : TableDef → Row → List SqlRow
keyed_cells table row = keyed row.name.key 1 (values_of table row)

-- the cells of a row, if there are any
abbrev pub IsRowOfCells : List SqlRow → Option (List SqlRow) → Type 0
IsRowOfCells cells None = cells ≡ []
IsRowOfCells cells (Some some) = (some ≡ cells) × (cells ≢ [])

-- the cells of the row of a key in a table, each with its place and its value, if the row is there
abbrev pub TellsCells : StoredTable → Value → Database → Option (List SqlRow) → Type 0
TellsCells s key =
    Tells s (λ rows. option_map (λ row. placed 1 (values_of s.table row)) (row_named rows (name_in s key)))

-- the values of the `many` columns after the first `start`, each with its place
abbrev pub placed_in : ℕ → ℕ → List Value → List SqlRow
placed_in start many values = placed (start + 1) (take many (drop start values))

-- the cells of the row of a key in adjacent columns, if the row is there
abbrev pub TellsSpan : ℕ → ℕ → StoredTable → Value → Database → Option (List SqlRow) → Type 0
TellsSpan start many s key =
    Tells s (λ rows. option_map (λ row. placed_in start many (values_of s.table row)) (row_named rows (name_in s key)))
