-- Believed: what is migrated, and what the disk has then.
use Rattle.std.specs.Prelude.{◌≡◌, ◌≢◌, ◌⊎◌, ℤ, List, map}
use Rattle.sqlite_trees.specs.Tree.{Trees}
use Rattle.sqlite.specs.Effect.{Database}
use Rattle.sqlite.specs.State.{State}
use Rattle.escrow_num.specs.declared.row.Row.{Row}
use Rattle.escrow_schema.specs.declared.table.TableDef.{TableDef}
use Rattle.escrow_cells.specs.declared.formats.TheConstants.{FORMAT, FORMAT_1}
use Rattle.escrow_schema.specs.declared.counted_table.CountedTable.{CountedTable}
use Rattle.escrow_schema.specs.declared.stored.StoredTable.{StoredTable}
use Rattle.escrow_schema.specs.Stored.{catalog_of}
use Rattle.escrow_recover.specs.Stored.{IsFormat1Store, HasFormat}
use Rattle.escrow_recover.specs.Holds.{AreHeld}
use Rattle.escrow_recover.specs.Found.{IsFounded}
use Rattle.escrow_recover.specs.Opened.{Stores}

-- an SQLite database holds these tables and these rows in the previous format, whatever numbers the tables have in it
pub record HoldsInFormat1 (catalog : List TableDef) (rows : List Row) (db : Database) : Type 0 where
  pub tables : List StoredTable
  pub catalog_is : map (λ s. s.table) tables ≡ catalog
  pub store : IsFormat1Store tables rows db

-- META says that the format is neither the known nor the previous one
pub record HasUnknownFormat (db : Database) : Type 0 where
  pub number : ℤ
  pub other : number ≢ FORMAT
  pub not_before : number ≢ FORMAT_1
  pub has : HasFormat number db

-- the disk holds, in the known format, the tables and rows that a database held in the previous format
abbrev pub IsMigrated : Database → Trees → Type 0
IsMigrated old trees =
    (catalog : List TableDef) × (rows : List Row) × HoldsInFormat1 catalog rows old × AreHeld catalog rows trees

-- the disk has what opening a store made of it, if it made anything
abbrev pub IsMade : Database → Trees → Type 0
IsMade old trees = IsFounded old trees ⊎ IsMigrated old trees

-- an open store holds the tables and rows that a database held in the previous format
abbrev pub IsMigratedFrom : Database → State → List CountedTable → Type 0
IsMigratedFrom old s tables = (rows : List Row) × Stores s tables rows × HoldsInFormat1 (catalog_of tables) rows old
