-- Helps: what private contracts say of a store that is being made. No contract of a public call uses it.
use Rattle.std.specs.Prelude.{◌≡◌, []}
use Rattle.std.specs.List.{AllByRecursion}
use Rattle.sqlite_schema.specs.declared.schema.Table.{Table}
use Rattle.sqlite_schema.specs.declared.schema.Schema.{Schema}
use Rattle.sqlite_catalog.specs.Change.{created}
use Rattle.sqlite.specs.Effect.{Database}
use Rattle.escrow_cells.specs.declared.creation.Origin.{Origin}
use Rattle.escrow_cells.specs.declared.creation.Origin.TheVariants.{Nothing, Store}
use Rattle.escrow_cells.specs.Store.{IsEmpty, MakesStore, Migrates}
use Rattle.escrow_cells.specs.Tables.{no_schema, meta, tab, cell}

-- the schema after each CREATE
abbrev pub with_meta : Schema
with_meta = created no_schema meta

abbrev pub with_tab : Schema
with_tab = created with_meta tab

abbrev pub with_cell : Schema
with_cell = created with_tab cell

-- a database with this schema, whose tables have no rows
pub record IsBare (schema : Schema) (db : Database) : Type 0 where
  pub schema_is : db.schema ≡ schema
  pub bare : AllByRecursion (λ (t : Table). db.trees t.tree ≡ []) schema.tables

-- a database without rows that has one schema becomes one that has the next
abbrev pub Extends : Schema → Schema → Database → Database → Type 0
Extends before after old new = IsBare before old → IsBare after new

-- a database without rows that has a schema becomes an empty store
abbrev pub Fills : Schema → Database → Database → Type 0
Fills before old new = IsBare before old → IsEmpty new

-- what is made from a database without objects, or from a store
abbrev pub made_of : Origin → Database → Database → Type 0
made_of Nothing = MakesStore
made_of Store = Migrates
