-- The rows of a store are those of which its database is the image.
use Rattle.std.proofs.Common.{◌≡◌, List, refl, subst, sym}
use Rattle.sqlite.specs.Effect.{Database}
use Rattle.sqlite.specs.State.{State, HasCleanDisk}
use Rattle.escrow_num.specs.declared.row.Row.{Row}
use Rattle.escrow_rows.specs.Image.{AreTables}
use Rattle.escrow_schema.specs.Stored.{IsListed}
use Rattle.escrow_rows.specs.View.{rows_in}
use Rattle.escrow_rows.proofs.ViewLemmas.{rows_are}
use Rattle.escrow_schema.specs.declared.counted_table.CountedTable.{CountedTable}
use Rattle.escrow_recover.specs.Opened.{IsOpened}
use Rattle.escrow_recover.proofs.OpenedLemmas.{stores_rows}
use Rattle.escrow_tables.specs.Inside.{IsHeld, Keeps, stored_of}

pub rows_held : (tables : List CountedTable) (rows : List Row) (db : Database) → AreTables (stored_of tables) → IsHeld tables rows db → rows_in (stored_of tables) db ≡ rows
rows_held tables rows db are held = rows_are (stored_of tables) rows db are held.are_rows held.image.cells_are

-- the rows that are held are those that are read
pub held_itself : (tables : List CountedTable) (rows : List Row) (db : Database) → AreTables (stored_of tables) → IsHeld tables rows db
    → IsHeld tables (rows_in (stored_of tables) db) db
held_itself tables rows db are held = subst (λ (rs : List Row). IsHeld tables rs db) (sym (rows_held tables rows db are held)) held

-- the fields keep what was opened
pub keeps_opened : (s : State) (tables : List CountedTable) → IsListed tables → (HasCleanDisk s → IsOpened s tables) → Keeps s s tables
keeps_opened s tables listed opened = record {
  listed = listed;
  held = λ clean.
      let found = opened clean in
      let is = found.1 in
      subst (λ (rows : List Row). IsHeld tables rows s.now) (sym (stores_rows s tables found.0 is)) (record { are_rows = is.store.are_rows; image = is.store.image; counts = is.counts });
  same = λ _. refl;
}
