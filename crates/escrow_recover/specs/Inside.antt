-- Helps: what private contracts say of a store that is being verified. No contract of a public call uses it.
use Rattle.std.specs.Prelude.{◌≡◌, ◌≤◌, ℤ, Bool, IsTrue, List, [], ◌∷◌, map, filter, length, IsPermutation}
use Rattle.std.specs.List.{AllByRecursion, flat_map, list_any}
use Rattle.std.specs.Ordering.{int_eq}
use Rattle.sqlite_value.specs.declared.value.Value.{Value as Sql}
use Rattle.sqlite_value.specs.declared.value.Value.TheVariants.{Int}
use Rattle.sqlite_value.specs.Order.{column}
use Rattle.sqlite.specs.Effect.{Database}
use Rattle.sqlite.specs.State.{State}
use Rattle.sqlite_trees.specs.Tree.{Trees}
use Rattle.escrow_num.specs.declared.refusal.Refusal.{Refusal}
use Rattle.escrow_num.specs.declared.refusal.Refusal.TheVariants as refusal
use Rattle.escrow_num.specs.Refusal.{refusal_for}
use Rattle.escrow_num.specs.declared.row.Row.{Row}
use Rattle.escrow_num.specs.Ascending.{IsAscending}
use Rattle.escrow_checks.specs.Grant.{Meets}
use Rattle.escrow_schema.specs.declared.table.TableDef.{TableDef}
use Rattle.escrow_schema.specs.Fit.{IsRowOf, values_of}
use Rattle.escrow_cells.specs.Step.{is_in}
use Rattle.escrow_cells.specs.Store.{IsStore, format, cells, metas, tabs}
use Rattle.escrow_schema.specs.declared.stored.StoredTable.{StoredTable}
use Rattle.escrow_schema.specs.declared.table.TheConstants.TableDef.{MAX_ROWS}
use Rattle.escrow_rows.specs.Placed.{keyed_cells}
use Rattle.escrow_rows.specs.Image.{AreTables, CanBeHeld, tab_row}
use Rattle.escrow_schema.specs.Rows.{row_before}
use Rattle.escrow_schema.specs.declared.counted_table.CountedTable.{CountedTable}
use Rattle.escrow_recover.specs.Migrated.{IsMigrated}
use Rattle.escrow_recover.specs.declared.unverified.PartFault.{PartFault}
use Rattle.escrow_recover.specs.declared.unverified.PartFault.TheVariants as part
use Rattle.escrow_recover.specs.declared.unverified.Unverified.{Unverified}
use Rattle.escrow_recover.specs.declared.unverified.Unverified.TheVariants as unverified

-- a store with a part of no store is no store
abbrev pub unverified_by : PartFault → Unverified
unverified_by (part.Failed failure) = unverified.Failed failure
unverified_by part.Foreign = unverified.ForeignStore

-- a store that isn't verified is refused for memory (51), by the store (60), as no store (61), or as one of another
-- format (62)
abbrev pub refused_as : Unverified → Refusal
refused_as (unverified.Failed failure) = refusal_for failure
refused_as unverified.ForeignStore = refusal.ForeignStore
refused_as unverified.OtherFormat = refusal.UnknownVersion

-- a row belongs to a table, meets its checks, and has values that can be held
pub record IsSoundRow (table : TableDef) (row : Row) : Type 0 where
  pub is_row : IsRowOf table row
  pub meets : AllByRecursion (λ check. Meets check row.amounts) table.checks
  pub held : AllByRecursion CanBeHeld (values_of table row)

-- the rows of a table of a store, in order of key
pub record AreRowsIn (s : StoredTable) (rows : List Row) (db : Database) : Type 0 where
  pub sound : AllByRecursion (IsSoundRow s.table) rows
  pub row_order : IsAscending row_before rows
  pub few : length rows ≤ MAX_ROWS
  pub cells_are : IsPermutation (flat_map (keyed_cells s.table) rows)
      (map (λ c. column c 1 ∷ column c 2 ∷ column c 3 ∷ []) (filter (is_in (Int s.id)) (cells db)))

-- a table's number of rows in a store is the one that is counted
abbrev pub HasRows : Database → CountedTable → Type 0
HasRows db c = (rows : List Row) × AreRowsIn c.stored rows db × (c.rows ≡ length rows)

-- each table has rows in a store
abbrev pub HaveRows : Database → List StoredTable → Type 0
HaveRows db tables = AllByRecursion (λ s. (rows : List Row) × AreRowsIn s rows db) tables

-- the tables of a store
pub record AreTablesIn (tables : List StoredTable) (db : Database) : Type 0 where
  pub are_tables : AreTables tables
  pub tabs_are : IsPermutation (map tab_row tables) (tabs db)

-- a store of the format that must be known
pub record IsKnown (known : ℤ) (db : Database) : Type 0 where
  pub store : IsStore db
  pub format_is : metas db ≡ format known

-- whether a number is that of one of these tables
abbrev pub is_number_of : List StoredTable → ℤ → Bool
is_number_of tables id = list_any (λ s. int_eq s.id id) tables

-- a value is the number of one of these tables
abbrev pub IsNumberOf : List StoredTable → Sql → Type 0
IsNumberOf tables v = (id : ℤ) × (v ≡ Int id) × IsTrue (is_number_of tables id)

-- each cell belongs to one of these tables
abbrev pub AreOfTables : List StoredTable → Database → Type 0
AreOfTables tables db = AllByRecursion (λ c. IsNumberOf tables (column c 0)) (cells db)

-- a store was open, and the disk now holds the tables and rows that it held in the previous format
pub record WasMigrated (old : State) (trees : Trees) : Type 0 where
  pub is_open : IsTrue old.is_open
  pub is_migrated : IsMigrated old.now trees
