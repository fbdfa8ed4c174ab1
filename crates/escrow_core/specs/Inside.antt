-- Helps: what the fields of a database hold, and what they keep.
use Rattle.sqlite.specs.Held.{state}
use Rattle.sqlite.specs.State.{HasCleanDisk}
use Rattle.sqlite_trees.specs.declared.store.Store.{Ghosts}
use Rattle.escrow_bounds.specs.Bounds.{Bounds}
use Rattle.escrow_tables.specs.Tables.{Tables}
use Rattle.escrow_journal.specs.Open.{Open}
use Rattle.escrow_reserved.specs.Placed.{AreOfTables, HaveAmounts}
use Rattle.escrow_reserved.specs.Read.{AreKnown, AreRead, ReadRows}
use Rattle.escrow_reserved.specs.Reserved.{ArePlaced}
use Rattle.escrow_core.specs.Database.{Database, IsKept}

-- the store and the state that a database's fields hold
abbrev pub database_of : {S : Type 0} → Tables S → Open → Database S
database_of tables open_ones = record {
  store = tables.store;
  state = record {
    catalog = tables.catalog;
    rows = tables.rows;
    reservations = open_ones.reservations;
    savepoints = open_ones.savepoints;
    next_id = open_ones.next_id;
  };
}

-- What a database keeps: its state, as far as the disk allows, and places. Exactly the rows that have an open
-- reservation have a place. Each place has the checks of its table and, if the disk has returned what was written, the
-- committed amounts of its row.
pub record Keeps {S : Type 0} (g : Ghosts S) (d : Database S) (places : Bounds) : Type 0 where
  pub kept : IsKept g d
  pub placed : ArePlaced d.state.reservations places
  pub of_tables : AreOfTables d.state.catalog places
  pub amounts : HasCleanDisk (state g d.store) → HaveAmounts d.state.rows places

-- it also keeps the amounts of rows that were read or inserted, which are still theirs if the disk has returned what
-- was written
pub record Holds {S : Type 0} (g : Ghosts S) (d : Database S) (places : Bounds) (recent : ReadRows) : Type 0 where
  pub keeps : Keeps g d places
  pub known : AreKnown d.state.catalog recent
  pub read : HasCleanDisk (state g d.store) → AreRead d.state.rows recent
