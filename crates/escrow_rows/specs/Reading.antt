-- Helps: rows that are read from the cells of a table, one after another.
use Rattle.std.specs.Prelude.{◌≡◌, ◌≢◌, ◌⊎◌, ℕ, ◌+◌, Bool, Option, Some, None, List, ◌++◌, map, length, take, drop, IsTrue}
use Rattle.std.specs.List.{AllByRecursion, flat_map}
use Rattle.sqlite_value.specs.declared.value.Value.TheVariants.{Int}
use Rattle.sqlite_value.specs.Order.{Row as SqlRow}
use Rattle.sqlite.specs.Effect.{Database}
use Rattle.escrow_num.specs.declared.row.Row.{Row}
use Rattle.escrow_schema.specs.declared.table.TableDef.{TableDef}
use Rattle.escrow_schema.specs.Fit.{values_of}
use Rattle.escrow_cells.specs.Read.{AreOfTable}
use Rattle.escrow_cells.specs.Store.{cells}
use Rattle.escrow_rows.specs.declared.keyed_row.KeyedRow.{KeyedRow}
use Rattle.escrow_schema.specs.declared.stored.StoredTable.{StoredTable}
use Rattle.escrow_schema.specs.Rows.{rows_of}
use Rattle.escrow_rows.specs.Changes.{Stands}
use Rattle.escrow_rows.specs.Image.{CanBeHeld, AreRows, AreTables, IsImage}
use Rattle.escrow_rows.specs.Placed.{keyed}

-- a row of a table, with its key and its values
abbrev pub keyed_row : TableDef → Row → KeyedRow
keyed_row table row = record { key = row.name.key; values = values_of table row }

-- a row of a table, with its key and its values in a span of columns, given by how many columns come before it and how
-- many it has
abbrev pub keyed_span : ℕ → ℕ → TableDef → Row → KeyedRow
keyed_span start many table row = record { key = row.name.key; values = take many (drop start (values_of table row)) }

-- the cells of a row after this many columns, each with its key, its place and its value
abbrev pub row_cells : ℕ → KeyedRow → List SqlRow
row_cells start row = keyed row.key (start + 1) row.values

-- rows have this many values
abbrev pub HaveValues : ℕ → List KeyedRow → Type 0
HaveValues many = AllByRecursion (λ row. length row.values ≡ many)

-- a row has this many values, and columns can hold them and its key
pub record IsWhole (many : ℕ) (row : KeyedRow) : Type 0 where
  pub many_are : length row.values ≡ many
  pub key_held : CanBeHeld row.key
  pub held : AllByRecursion CanBeHeld row.values

-- cells are exactly those of whole rows, and a taker has taken these rows
pub record AreTaken {T : Type 0} (HasTaken : T → T → List KeyedRow → Type 0) (start many : ℕ) (old : T)
    (cells : List SqlRow) (new : T) : Type 0 where
  pub rows : List KeyedRow
  pub whole : AllByRecursion (IsWhole many) rows
  pub cells_are : cells ≡ flat_map (row_cells start) rows
  pub only : (others : List KeyedRow) → HaveValues many others → cells ≡ flat_map (row_cells start) others
      → others ≡ rows
  pub taken : (first : T) (before : List KeyedRow) → HasTaken first old before → HasTaken first new (before ++ rows)

-- a taker has taken all of any rows whose cells begin with these
abbrev pub TakesAll : {T : Type 0} → (T → T → List KeyedRow → Type 0) → ℕ → ℕ → T → List SqlRow → T → Type 0
TakesAll {T} HasTaken start many old cells new =
    (rows : List KeyedRow) (rest : List SqlRow) → HaveValues many rows → flat_map (row_cells start) rows ≡ cells ++ rest
    → (first : T) (before : List KeyedRow) → HasTaken first old before → HasTaken first new (before ++ rows)

-- if the taker is returned, it has been given the rows of the cells, or has enough after the first of them; otherwise
-- the cells are those of no whole rows
abbrev pub IsRead : {T : Type 0} → (T → T → List KeyedRow → Type 0) → (T → Bool) → ℕ → ℕ → T → List SqlRow → Option T
    → Type 0
IsRead HasTaken is_enough start many old cells (Some new) =
    AreTaken HasTaken start many old cells new ⊎ (IsTrue (is_enough new) × TakesAll HasTaken start many old cells new)
IsRead HasTaken is_enough start many old cells None =
    (rows : List KeyedRow) → AllByRecursion (IsWhole many) rows → cells ≢ flat_map (row_cells start) rows

-- this holds of the cells of a table in a store, in order of key and place: each row has a value for each column
abbrev pub ReadsRows : {T : Type 0} → (T → T → List KeyedRow → Type 0) → (T → Bool) → StoredTable → Database → T
    → Option T → Type 0
ReadsRows HasTaken is_enough s db old found =
    (answer : List SqlRow) × AreOfTable (Int s.id) (cells db) answer
    × IsRead HasTaken is_enough 0 (length s.table.columns) old answer found

-- a taker has taken each row of a table, in order of key, with its key and its values in a span of columns
abbrev pub TakesSpans : {T : Type 0} → (T → T → List KeyedRow → Type 0) → ℕ → ℕ → StoredTable → Database → T → T
    → Type 0
TakesSpans {T} HasTaken start many s db old new =
    (tables : List StoredTable) (rows : List Row) → AreTables tables → AreRows tables rows → Stands tables s
    → IsImage tables rows db
    → (first : T) (before : List KeyedRow) → HasTaken first old before
    → HasTaken first new (before ++ map (keyed_span start many s.table) (rows_of rows s.table.name))
