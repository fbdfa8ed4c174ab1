-- Helps: what the fields of the tables of a database hold.
use Rattle.std.specs.Prelude.{◌≡◌, List}
use Rattle.std.specs.List.{AllByRecursion}
use Rattle.sqlite.specs.Effect.{Database}
use Rattle.sqlite.specs.State.{State, HasCleanDisk}
use Rattle.escrow_num.specs.declared.row.Row.{Row}
use Rattle.escrow_schema.specs.Stored.{IsListed}
use Rattle.escrow_rows.specs.Answers.{IsUsable}
use Rattle.escrow_rows.specs.Image.{IsImage, AreRows}
use Rattle.escrow_rows.specs.View.{rows_in}
use Rattle.escrow_schema.specs.declared.counted_table.CountedTable.{CountedTable}
pub use Rattle.escrow_recover.specs.Stored.{stored_of, catalog_of, HasCount}

-- a database is the image of the tables and of rows of theirs, and the counts are those of these rows
pub record IsHeld (tables : List CountedTable) (rows : List Row) (db : Database) : Type 0 where
  pub are_rows : AreRows (stored_of tables) rows
  pub image : IsImage (stored_of tables) rows db
  pub counts : AllByRecursion (HasCount rows) tables

-- What the fields keep of a store, and of how it was when it was last written. The tables are kept whatever the store
-- is like. If its disk returned what was written, the rows are kept as they were then. If the store can be used, it
-- still holds what it held then.
pub record Keeps (s last : State) (tables : List CountedTable) : Type 0 where
  pub listed : IsListed tables
  pub held : HasCleanDisk s → IsHeld tables (rows_in (stored_of tables) last.now) last.now
  pub same : IsUsable s → s.now ≡ last.now
