-- Believed: what a store holds.
use Rattle.std.specs.Prelude.{◌≡◌, false, ℤ, List, [], ◌∷◌, map, codes, IsTrue}
use Rattle.std.specs.List.{AllByRecursion}
use Rattle.std.specs.Ordering.{is_eq}
use Rattle.sqlite_value.specs.declared.value.Value.TheVariants.{Int, Text}
use Rattle.sqlite_value.specs.Order.{Row, column, value_cmp}
use Rattle.sqlite_trees.specs.Tree.{IsAscending, rowid}
use Rattle.sqlite_trees.specs.View.{is_int}
use Rattle.sqlite_schema.specs.declared.schema.Table.{Table}
use Rattle.sqlite_schema.specs.declared.schema.Index.{Index}
use Rattle.sqlite_schema.specs.declared.schema.View.{View}
use Rattle.sqlite_schema.specs.declared.schema.Schema.{Schema}
use Rattle.sqlite.specs.Effect.{Database, IsDatabase}
use Rattle.escrow_cells.specs.declared.formats.TheConstants.{FORMAT}
use Rattle.escrow_cells.specs.Tables.{no_schema, beside, meta_tree, tab_tree, cell_tree}

-- the rows of META: K and V
abbrev pub metas : Database → List Row
metas db = map (λ r. column r 1 ∷ column r 2 ∷ []) (db.trees meta_tree)

-- the rows of TAB: ID, NAME and DDL; the ID is SQLite's own number of the row
abbrev pub tabs : Database → List Row
tabs db = map (λ r. rowid r ∷ column r 2 ∷ column r 3 ∷ []) (db.trees tab_tree)

-- the rows of CELL: TAB, K, C and V
abbrev pub cells : Database → List Row
cells db = map (λ r. column r 1 ∷ column r 2 ∷ column r 3 ∷ column r 4 ∷ []) (db.trees cell_tree)

-- the first three tables are META, TAB and CELL, as their texts make them
pub record HasTables (schema : Schema) : Type 0 where
  pub more : List Table
  pub indexes : List Index
  pub views : List View
  pub is : schema ≡ beside more indexes views

-- the schema of a store: the three tables come first, and no table has a foreign key, which would let a
-- write to one table reach another
pub record IsStoreSchema (schema : Schema) : Type 0 where
  pub tables : HasTables schema
  pub no_keys : AllByRecursion (λ (t : Table). t.references ≡ []) schema.tables

-- SQLite's numbers of the rows are whole, and no number occurs twice
pub record NumbersDiffer (rows : List Row) : Type 0 where
  pub whole : AllByRecursion (λ r. IsTrue (is_int (rowid r))) rows
  pub apart : IsAscending (λ a b. is_eq (value_cmp (rowid a) (rowid b)) ≡ false) rows

-- SQLite's own numbers of the rows of the three tables are whole, and none occurs twice in a table
pub record AreAllNumbered (db : Database) : Type 0 where
  pub metas : NumbersDiffer (db.trees meta_tree)
  pub tabs : NumbersDiffer (db.trees tab_tree)
  pub cells : NumbersDiffer (db.trees cell_tree)

-- A store: a database of SQLite whose first tables are these three, with their rows numbered. It has no foreign keys,
-- which would let a write to one table reach another.
pub record IsStore (db : Database) : Type 0 where
  pub tables : HasTables db.schema
  pub sound : IsDatabase db
  pub no_keys : AllByRecursion (λ (t : Table). t.references ≡ []) db.schema.tables
  pub metas_numbered : NumbersDiffer (db.trees meta_tree)
  pub tabs_numbered : NumbersDiffer (db.trees tab_tree)
  pub cells_numbered : NumbersDiffer (db.trees cell_tree)

-- the rows of META in a store whose format has this number: one row, with the number
abbrev pub format : ℤ → List Row
format number = (Text (codes "format") ∷ Int number ∷ []) ∷ []

-- a store in the known format (FORMAT) whose TAB and CELL are empty
pub record IsEmpty (db : Database) : Type 0 where
  pub store : IsStore db
  pub metas_are : metas db ≡ format FORMAT
  pub tabs_are : tabs db ≡ []
  pub cells_are : cells db ≡ []

-- a database without objects becomes an empty store
abbrev pub MakesStore : Database → Database → Type 0
MakesStore old new = old.schema ≡ no_schema → IsEmpty new

-- a store in the known format (FORMAT), with the rows of TAB and CELL that another had
pub record HasMigrated (old new : Database) : Type 0 where
  pub store : IsStore new
  pub metas_are : metas new ≡ format FORMAT
  pub tabs_are : tabs new ≡ tabs old
  pub cells_are : cells new ≡ cells old

-- a store in any format is migrated to the known one
abbrev pub Migrates : Database → Database → Type 0
Migrates old new = (number : ℤ) → IsStore old → metas old ≡ format number → HasMigrated old new
