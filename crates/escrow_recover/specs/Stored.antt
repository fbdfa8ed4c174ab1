-- Believed: when an SQLite database is a store, and of which tables and rows.
use Rattle.std.specs.Prelude.{◌≡◌, ◌≢◌, ℤ, IsSomeAnd, List, map, length}
use Rattle.std.specs.List.{AllByRecursion}
use Rattle.sqlite.specs.Effect.{Database}
use Rattle.escrow_num.specs.declared.row.Row.{Row}
use Rattle.escrow_schema.specs.declared.table.TableDef.{TableDef}
use Rattle.escrow_schema.specs.Catalog.{table_named}
use Rattle.escrow_schema.specs.Column.{scale_of}
use Rattle.escrow_schema.specs.Fit.{values_of}
use Rattle.escrow_cells.specs.declared.formats.TheConstants.{FORMAT, FORMAT_1}
use Rattle.escrow_cells.specs.Store.{IsStoreSchema, format, metas}
use Rattle.escrow_schema.specs.declared.stored.StoredTable.{StoredTable}
pub use Rattle.escrow_schema.specs.Stored.{stored_of, catalog_of}
use Rattle.escrow_rows.specs.Image.{CanBeHeld, IsImageIn, AreTables, AreRows}
use Rattle.escrow_schema.specs.Rows.{rows_of, MeetsChecks}
use Rattle.escrow_schema.specs.declared.counted_table.CountedTable.{CountedTable}

-- each value of a row is one that a column can hold: an amount, or a text in UTF-8
abbrev pub HasHeldValues : List TableDef → Row → Type 0
HasHeldValues catalog row =
    IsSomeAnd (table_named catalog row.name.table) (λ table. AllByRecursion CanBeHeld (values_of table row))

-- A STORE in the format of a number: the image of tables and rows. Each row meets the checks of its table, and has
-- values that can be held
pub record IsStoreIn (number : ℤ) (tables : List StoredTable) (rows : List Row) (db : Database) : Type 0 where
  pub are_tables : AreTables tables
  pub are_rows : AreRows tables rows
  pub meet : AllByRecursion (MeetsChecks (map (λ s. s.table) tables)) rows
  pub held : AllByRecursion (HasHeldValues (map (λ s. s.table) tables)) rows
  pub image : IsImageIn number tables rows db

-- a database that isn't the store of any tables and rows in a format
abbrev pub IsNoStoreIn : ℤ → Database → Type 0
IsNoStoreIn number db = (tables : List StoredTable) (rows : List Row) → IsStoreIn number tables rows db → ⊥

-- the tables are those of a store, and META has one row, which says that the format is this one
pub record HasFormat (number : ℤ) (db : Database) : Type 0 where
  pub schema : IsStoreSchema db.schema
  pub format_is : metas db ≡ format number

-- the tables are those of a store, and META has one row, which says that the format isn't this one
pub record HasFormatBut (known : ℤ) (db : Database) : Type 0 where
  pub number : ℤ
  pub other : number ≢ known
  pub has : HasFormat number db

-- A STORE in the known format, of these tables and rows
abbrev pub IsStoreOf : List StoredTable → List Row → Database → Type 0
IsStoreOf = IsStoreIn FORMAT

-- a database that isn't the store of any tables and rows in the known format
abbrev pub IsNoStore : Database → Type 0
IsNoStore = IsNoStoreIn FORMAT

-- the tables are those of a store, and META has one row, with a number other than that of the known format
abbrev pub HasOtherFormat : Database → Type 0
HasOtherFormat = HasFormatBut FORMAT

-- a table in which no column has a scale: its numbers are whole
abbrev pub IsWhole : TableDef → Type 0
IsWhole table = AllByRecursion (λ column. scale_of column.kind ≡ 0) table.columns

-- no column of the tables has a scale
abbrev pub AreWhole : List TableDef → Type 0
AreWhole = AllByRecursion IsWhole

-- A STORE in the previous format, in which no column has a scale
pub record IsFormat1Store (tables : List StoredTable) (rows : List Row) (db : Database) : Type 0 where
  pub store : IsStoreIn FORMAT_1 tables rows db
  pub whole : AreWhole (map (λ s. s.table) tables)

-- a database that isn't the store of any tables and rows in the previous format
abbrev pub IsNoFormat1Store : Database → Type 0
IsNoFormat1Store db = (tables : List StoredTable) (rows : List Row) → IsFormat1Store tables rows db → ⊥

-- a table's number of rows is the one that is counted
abbrev pub HasCount : List Row → CountedTable → Type 0
HasCount rows c = c.rows ≡ length (rows_of rows c.stored.table.name)
