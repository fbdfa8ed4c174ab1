-- Believed: when a store is the image of tables and rows.
use Rattle.std.specs.Prelude.{◌≡◌, ◌≤◌, ℕ, ℤ, pos, ◌+ℤ◌, not, Option, option_map, unwrap_or, IsSomeAnd, List, [], ◌∷◌, length, map, find, bytes_eq, IsTrue, int_le, IsPermutation}
use Rattle.std.specs.List.{AllByRecursion, flat_map}
use Rattle.std.specs.Ordering.{int_eq}
use Rattle.sqlite_value.specs.declared.value.Value.{Value as Sql}
use Rattle.sqlite_value.specs.declared.value.Value.TheVariants as sql
use Rattle.sqlite_value.specs.Order.{Row as SqlRow}
use Rattle.sqlite.specs.Effect.{Database}
use Rattle.escrow_num.specs.declared.row.Row.{Row}
use Rattle.escrow_num.specs.declared.value.Value.{Value}
use Rattle.escrow_num.specs.declared.value.Value.TheVariants.{Number, Text}
use Rattle.std.specs.Str.{IsUtf8}
use Rattle.escrow_num.specs.Amount.{IsAmount}
use Rattle.escrow_num.specs.Ascending.{IsAscending}
use Rattle.escrow_schema.specs.declared.catalog.TheConstants.Catalog.{MAX_TABLES}
use Rattle.escrow_schema.specs.Definition.{IsTable}
use Rattle.escrow_schema.specs.Fit.{IsRowOf, values_of}
use Rattle.escrow_schema.specs.Print.{canonical}
use Rattle.escrow_schema.specs.Rows.{row_before, rows_of}
use Rattle.escrow_cells.specs.declared.formats.TheConstants.{FORMAT}
use Rattle.escrow_cells.specs.Store.{IsStore, format, metas, tabs, cells}
use Rattle.escrow_schema.specs.declared.stored.StoredTable.{StoredTable}
use Rattle.escrow_schema.specs.declared.table.TheConstants.TableDef.{MAX_ROWS}

-- a value as SQLite stores it
abbrev pub stored : Value → Sql
stored (Number z) = sql.Int z
stored (Text t) = sql.Text t

-- a column can hold a value: an amount, or a text in UTF-8
abbrev pub CanBeHeld : Value → Type 0
CanBeHeld (Number z) = IsAmount z
CanBeHeld (Text t) = IsUtf8 t

-- a table's row in TAB: its number, its name, and its canonical text
abbrev pub tab_row : StoredTable → SqlRow
tab_row s = sql.Int s.id ∷ sql.Text s.table.name ∷ sql.Text (canonical s.table) ∷ []

-- the cells of values, the first at a given place: the table's number, the key, the place, the value
abbrev pub cells_from : ℤ → Value → ℤ → List Value → List SqlRow
cells_from id key place [] = []
cells_from id key place (v ∷ vs) =
    (sql.Int id ∷ stored key ∷ sql.Int place ∷ stored v ∷ []) ∷ cells_from id key (place +ℤ pos 1) vs

-- the cells of a row of a table: one for each column, by its place from 1
abbrev pub cells_in : StoredTable → Row → List SqlRow
cells_in s row = cells_from s.id row.name.key (pos 1) (values_of s.table row)

-- the table of a name
abbrev pub stored_named : List StoredTable → List ℕ → Option StoredTable
stored_named tables name = find (λ s. bytes_eq s.table.name name) tables

-- the cells of a row of one of the tables
abbrev pub cells_of : List StoredTable → Row → List SqlRow
cells_of tables row = unwrap_or (option_map (λ s. cells_in s row) (stored_named tables row.name.table)) []

-- THE IMAGE in the format of a number: META has this number, TAB has a row for each table, with its canonical text, and
-- CELL has a cell for each value of each row; the rows of TAB and CELL are in any order
pub record IsImageIn (number : ℤ) (tables : List StoredTable) (rows : List Row) (db : Database) : Type 0 where
  pub store : IsStore db
  pub format_is : metas db ≡ format number
  pub tabs_are : IsPermutation (map tab_row tables) (tabs db)
  pub cells_are : IsPermutation (flat_map (cells_of tables) rows) (cells db)

-- the image in the known format: TAB has the canonical text of each table, and CELL the values of each row
abbrev pub IsImage : List StoredTable → List Row → Database → Type 0
IsImage = IsImageIn FORMAT

-- tables that can be in a store together: each is one that some text defines, with a number from 1 on; no two have the
-- same number or the same name
pub record AreTables (tables : List StoredTable) : Type 0 where
  pub defined : AllByRecursion (λ s. IsTable s.table) tables
  pub from_one : AllByRecursion (λ s. IsTrue (int_le (pos 1) s.id)) tables
  pub ids_apart : IsAscending (λ a b. not (int_eq a.id b.id)) tables
  pub names_apart : IsAscending (λ a b. not (bytes_eq a.table.name b.table.name)) tables
  pub few : length tables ≤ MAX_TABLES

-- a row belongs to one of the tables
abbrev pub IsOfTables : List StoredTable → Row → Type 0
IsOfTables tables row = IsSomeAnd (stored_named tables row.name.table) (λ s. IsRowOf s.table row)

-- rows of tables, in order of table and key, no two with the same name; at most 65,536 of each table
pub record AreRows (tables : List StoredTable) (rows : List Row) : Type 0 where
  pub of_tables : AllByRecursion (IsOfTables tables) rows
  pub row_order : IsAscending row_before rows
  pub few_rows : (table : List ℕ) → length (rows_of rows table) ≤ MAX_ROWS
