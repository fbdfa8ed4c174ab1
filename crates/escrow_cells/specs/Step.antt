-- Believed: how a list of steps changes a store.
use Rattle.std.specs.Prelude.{◌≡◌, Bool, true, not, ◌&&◌, if◌then◌else◌, List, [], ◌∷◌, map, filter, fold, IsPermutation}
use Rattle.std.specs.List.{list_any}
use Rattle.sqlite_value.specs.declared.value.Value.{Value}
use Rattle.sqlite_value.specs.declared.value.Value.TheVariants.{Int, Text}
use Rattle.sqlite_value.specs.declared.keys.Collation.TheVariants.{Binary}
use Rattle.sqlite_value.specs.Order.{Row, column}
use Rattle.sqlite_schema.specs.Rules.{equal}
use Rattle.sqlite.specs.Effect.{Database}
use Rattle.escrow_cells.specs.declared.datum.Datum.{Datum}
use Rattle.escrow_cells.specs.declared.datum.Datum.TheVariants as datum
use Rattle.escrow_cells.specs.declared.step.Step.{Step}
use Rattle.escrow_cells.specs.declared.step.Step.TheVariants as step
use Rattle.escrow_cells.specs.Store.{IsStore, metas, tabs, cells}

-- a value as SQLite stores it
abbrev pub kept : Datum → Value
kept (datum.Number n) = Int n
kept (datum.Text t) = Text t.now

-- whether two values are equal to SQLite's `=`
abbrev pub same : Value → Value → Bool
same a b = equal Binary a b

-- whether a cell belongs to a table
abbrev pub is_in : Value → Row → Bool
is_in table cell = same (column cell 0) table

-- whether a cell belongs to the row of a key
abbrev pub is_of : Value → Value → Row → Bool
is_of table key cell = is_in table cell && same (column cell 1) key

-- whether a cell is the one at a place of the row of a key
abbrev pub is_at : Value → Value → Value → Row → Bool
is_at table key place cell = is_of table key cell && same (column cell 2) place

-- a cell with another value if it is the one at a place, otherwise unchanged
abbrev pub with_value : Value → Value → Value → Value → Row → Row
with_value table key place value cell =
    if is_at table key place cell then column cell 0 ∷ column cell 1 ∷ column cell 2 ∷ value ∷ [] else cell

-- the rows of CELL and of TAB
pub record Contents : Type 0 where
  pub cells : List Row
  pub tabs : List Row

-- what a store holds in CELL and TAB
abbrev pub contents : Database → Contents
contents db = record { cells = cells db; tabs = tabs db }

-- the rows of CELL and TAB after a step. Their order here has no meaning, since SQL has none. Where a cell is looked
-- for first changes nothing
abbrev pub done : Contents → Step → Contents
done c (step.InsertCell table key place value) =
    record c { cells = (Int table ∷ kept key ∷ Int place ∷ kept value ∷ []) ∷ c.cells }
done c (step.SetCell table key place value hint) =
    record c { cells = map (with_value (Int table) (kept key) (Int place) (kept value)) c.cells }
done c (step.DeleteRow table key) =
    record c { cells = filter (λ cell. not (is_of (Int table) (kept key) cell)) c.cells }
done c (step.DeleteCells table) = record c { cells = filter (λ cell. not (is_in (Int table) cell)) c.cells }
done c (step.InsertTab id name text) = record c { tabs = (Int id ∷ Text name.now ∷ Text text.now ∷ []) ∷ c.tabs }
done c (step.DeleteTab id) = record c { tabs = filter (λ tab. not (same (column tab 0) (Int id))) c.tabs }

-- a database holds these contents, in any order, and has the META of another
pub record HoldsContents (c : Contents) (old new : Database) : Type 0 where
  pub store : IsStore new
  pub cells_are : IsPermutation c.cells (cells new)
  pub tabs_are : IsPermutation c.tabs (tabs new)
  pub metas_are : metas new ≡ metas old

-- the steps are done to a store, one after another: CELL and TAB then hold the rows that follow, in any order, since
-- SQL has none
abbrev pub Does : List Step → Database → Database → Type 0
Does steps old new = IsStore old → HoldsContents (fold done (contents old) steps) old new

-- whether a step finds its cell: one that changes or deletes cells of the row of a key must find one; any other is done
-- whatever there is
abbrev pub finds : Step → List Row → Bool
finds (step.SetCell table key place value hint) all = list_any (is_at (Int table) (kept key) (Int place)) all
finds (step.DeleteRow table key) all = list_any (is_of (Int table) (kept key)) all
finds _ all = true

-- the first of some steps finds a cell if it goes by a key, and all of them are done to the store
pub record DoesFinding (first : Step) (rest : List Step) (old new : Database) : Type 0 where
  pub does : Does (first ∷ rest) old new
  pub found : IsStore old → finds first (cells old) ≡ true
