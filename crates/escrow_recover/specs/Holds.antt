-- Believed: when an SQLite database, or a disk, holds tables and rows.
use Rattle.std.specs.Prelude.{◌≡◌, List, map}
use Rattle.sqlite.specs.Effect.{Database}
use Rattle.sqlite_trees.specs.Tree.{Trees}
use Rattle.escrow_num.specs.declared.row.Row.{Row}
use Rattle.escrow_schema.specs.declared.stored.StoredTable.{StoredTable}
use Rattle.escrow_schema.specs.declared.table.TableDef.{TableDef}
use Rattle.escrow_rows.specs.Image.{IsImage, AreTables, AreRows}

-- an SQLite database holds these tables and these rows, whatever numbers the tables have in it
pub record Holds (catalog : List TableDef) (rows : List Row) (db : Database) : Type 0 where
  pub tables : List StoredTable
  pub are_tables : AreTables tables
  pub catalog_is : map (λ s. s.table) tables ≡ catalog
  pub are_rows : AreRows tables rows
  pub image : IsImage tables rows db

-- the disk has a database that holds these tables and these rows
abbrev pub AreHeld : List TableDef → List Row → Trees → Type 0
AreHeld catalog rows trees = (db : Database) × Holds catalog rows db × (trees ≡ db.trees)
