-- Helps: what private contracts say of a row while its cells are read. No contract of a public call uses it.
use Rattle.std.specs.Prelude.{◌≡◌, ◌≢◌, ◌+◌, ◌<◌, ℕ, pos, Bool, List, [], ◌∷◌, ◌++◌, map, length, false, IsTrue}
use Rattle.std.specs.List.{AllByRecursion, flat_map}
use Rattle.sqlite_value.specs.declared.value.Value.{Value as Sql}
use Rattle.sqlite_value.specs.declared.value.Value.TheVariants.{Int}
use Rattle.sqlite_value.specs.Order.{Row as SqlRow}
use Rattle.sqlite.specs.Effect.{Database}
use Rattle.escrow_num.specs.declared.row.Row.{Row}
use Rattle.escrow_num.specs.declared.value.Value.{Value}
use Rattle.escrow_rows.specs.declared.keyed_row.KeyedRow.{KeyedRow}
use Rattle.escrow_rows.specs.declared.reader.RowReader.{RowReader}
use Rattle.escrow_schema.specs.Rows.{rows_of}
use Rattle.escrow_schema.specs.declared.stored.StoredTable.{StoredTable}
use Rattle.escrow_rows.specs.Image.{stored, AreRows, AreTables, CanBeHeld, IsImage}
use Rattle.escrow_rows.specs.declared.span.Span.{Span}
use Rattle.escrow_rows.specs.Changes.{Stands}
use Rattle.escrow_rows.specs.Reading.{HaveValues, IsWhole, TakesAll, keyed_span, row_cells}

-- a cell of the row of a key, with its place and what it holds
abbrev pub cell_at : Value → ℕ → Sql → SqlRow
cell_at key place held = stored key ∷ Int (pos place) ∷ held ∷ []

-- a row with the value of one more cell, which is its next one or its first
pub record Extends (start : ℕ) (old : KeyedRow) (cell : SqlRow) (new : KeyedRow) : Type 0 where
  pub key_held : CanBeHeld old.key → CanBeHeld new.key
  pub key_is : old.values ≢ [] → new.key ≡ old.key
  pub value : Value
  pub value_held : CanBeHeld value
  pub values_are : new.values ≡ old.values ++ value ∷ []
  pub cell_is : cell ≡ cell_at new.key (start + length old.values + 1) (stored value)

-- rows of this many values each were built from cells, and a taker has taken those that are whole; the last one lacks
-- values
pub record IsGathered {T : Type 0} (HasTaken : T → T → List KeyedRow → Type 0) (start many : ℕ) (first now : T)
    (last : KeyedRow) (cells : List SqlRow) : Type 0 where
  pub done : List KeyedRow
  pub whole : AllByRecursion (IsWhole many) done
  pub taken : (begun : T) (before : List KeyedRow) → HasTaken begun first before → HasTaken begun now (before ++ done)
  pub short : length last.values < many
  pub key_held : CanBeHeld last.key
  pub held : AllByRecursion CanBeHeld last.values
  pub cells_are : cells ≡ flat_map (row_cells start) done ++ row_cells start last
  pub only : (rows : List KeyedRow) (rest : List SqlRow) → HaveValues many rows
      → flat_map (row_cells start) rows ≡ cells ++ rest
      → (later : List KeyedRow) × (rows ≡ done ++ later)
      × (flat_map (row_cells start) later ≡ row_cells start last ++ rest)

-- cells with which the cells of no whole rows begin
abbrev pub BeginNoRows : ℕ → ℕ → List SqlRow → Type 0
BeginNoRows start many cells =
    (rows : List KeyedRow) (rest : List SqlRow) → AllByRecursion (IsWhole many) rows
    → flat_map (row_cells start) rows ≢ cells ++ rest

-- a taker wants no more rows, and no row is being read
pub record IsEnough {T : Type 0} (HasTaken : T → T → List KeyedRow → Type 0) (is_enough : T → Bool) (taker : T)
    (last : KeyedRow) : Type 0 where
  pub wants : IsTrue (is_enough taker)
  pub done : (first : T) (rows more : List KeyedRow) → HasTaken first taker rows → HasTaken first taker (rows ++ more)
  pub empty : last.values ≡ []

-- a reader has taken cells: it has built rows from them, or enough rows from the first of them, or no rows begin with
-- them
pub record HasGathered {T : Type 0} (HasTaken : T → T → List KeyedRow → Type 0) (is_enough : T → Bool)
    (first now : RowReader T) (cells : List SqlRow) : Type 0 where
  pub same : now.span ≡ first.span
  pub so_far : IsTrue now.fits → now.enough ≡ false
      → IsGathered HasTaken first.span.start first.span.len first.taker now.taker now.row cells
  pub enough : IsTrue now.enough → IsTrue now.fits × IsEnough HasTaken is_enough now.taker now.row
      × TakesAll HasTaken first.span.start first.span.len first.taker cells now.taker
  pub other : now.fits ≡ false → BeginNoRows first.span.start first.span.len cells

-- a reader of a span of columns has taken no cells
pub record IsNew {T : Type 0} (reader : RowReader T) (span : Span) (taker : T) : Type 0 where
  pub span_is : reader.span ≡ span
  pub taker_is : reader.taker ≡ taker
  pub fits : IsTrue reader.fits
  pub wanting : reader.enough ≡ false
  pub empty : reader.row.values ≡ []
  pub key_held : CanBeHeld reader.row.key

-- if the store is the image of rows, a reader has taken the cells of each row of a table in a span of columns, in order
-- of key and place
abbrev pub TakesCells : {T : Type 0} → (T → T → List KeyedRow → Type 0) → (T → Bool) → ℕ → ℕ → StoredTable → Database
    → RowReader T → RowReader T → Type 0
TakesCells {T} HasTaken is_enough start many s db old new =
    (tables : List StoredTable) (rows : List Row) → AreTables tables → AreRows tables rows → Stands tables s
    → IsImage tables rows db
    → (first : RowReader T) → HasGathered HasTaken is_enough first old []
    → HasGathered HasTaken is_enough first new
    (flat_map (row_cells start) (map (keyed_span start many s.table) (rows_of rows s.table.name)))
