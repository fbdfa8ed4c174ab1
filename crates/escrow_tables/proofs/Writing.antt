-- What a writing call of the store does to the tables and rows of a database.
use Rattle.std.proofs.Common.{◌≡◌, ◌∙◌, Bool, true, false, List, ap, ap₂, arith, inl, refl, subst, subst₂, sym}
use Rattle.std.proofs.lemmas.Bool.{false≢true}
use Rattle.sqlite_trees.specs.declared.store.Store.{Ghosts}
use Rattle.sqlite.specs.Effect.{Database}
use Rattle.sqlite.specs.Held.{Held, state}
use Rattle.sqlite.specs.State.{HasCleanDisk}
use Rattle.sqlite.proofs.StateLemmas.{survives_weaker}
use Rattle.escrow_num.specs.declared.row.Row.{Row}
use Rattle.escrow_schema.specs.Stored.{IsListed}
use Rattle.escrow_schema.specs.declared.table.TableDef.{TableDef}
use Rattle.escrow_cells.specs.Calls.{Transacts}
use Rattle.escrow_rows.specs.Answers.{IsUsable}
use Rattle.escrow_rows.specs.Image.{AreTables}
use Rattle.escrow_rows.specs.View.{rows_in}
use Rattle.escrow_rows.proofs.ListedTables.{listed_are}
use Rattle.escrow_recover.proofs.OpenedLemmas.{definitions}
use Rattle.escrow_tables.specs.Calls.{Writes}
use Rattle.escrow_tables.specs.Tables.{Tables, Holds}
use Rattle.escrow_tables.specs.Inside.{IsHeld, Keeps, catalog_of, stored_of}
use Rattle.escrow_schema.specs.declared.counted_table.CountedTable.{CountedTable}
use Rattle.escrow_tables.proofs.Held.{held_itself, rows_held}

-- what contracts see of a connection, of its state at the last write, and of tables
abbrev pub seen : {S : Type 0} → Ghosts S → Held S → Held S → List CountedTable → Tables S
seen g store last tables = record { store = store; catalog = catalog_of tables; rows = rows_in (stored_of tables) (state g last).now }

-- a database holds the tables and rows that are held in it
pub holds : (tables : List CountedTable) (rows : List Row) (db : Database) → AreTables (stored_of tables) → IsHeld tables rows db → Holds (catalog_of tables) rows db
holds tables rows db are held = record {
  tables = stored_of tables;
  are_tables = are;
  catalog_is = definitions tables;
  are_rows = held.are_rows;
  image = held.image;
}

-- nothing is changed, and the call fails
pub untouched : {S : Type 0} (g : Ghosts S) (it : Tables S) (catalog : List TableDef) (rows : List Row) → Writes g it it false catalog rows
untouched g it catalog rows = record {
  done_catalog = λ e. absurd (false≢true e);
  done_rows = λ e. absurd (false≢true e);
  opened = λ e. absurd (false≢true e);
  durable = λ e. absurd (false≢true e);
  kept_catalog = λ _. refl;
  kept_rows = λ _. refl;
  usable = λ usable. usable;
  survives = record {
    clean = omega arith;
    shield = λ h. h;
    counts = omega arith;
    limit = refl;
    closes = λ _ h. inl h;
    crash = λ _ _ h. inl h;
  };
}

module _ {S : Type 0} (g : Ghosts S) (old new : Held S) (D : Database → Database → Type 0) where
  -- The tables are kept, with the store as it was last written; the change makes other tables and rows. If the call
  -- succeeds, the fields have these, and the store as it is then.
  module _ (is_done : Bool) (it : Transacts (state g old) (state g new) is_done D) (was later : Held S) (tables after fields : List CountedTable) (rows : List Row) (keeps : Keeps (state g old) (state g was) tables)
      (listed_after : IsListed after) (turns : IsUsable (state g old) → (db : Database) → D (state g was).now db → IsHeld after rows db)
      (if_done : is_done ≡ true → (fields ≡ after) × (later ≡ new)) (if_not : is_done ≡ false → (fields ≡ tables) × (later ≡ was)) where
    are_after : AreTables (stored_of after)
    are_after = listed_are after listed_after

    -- a disk that is clean was clean before
    was_clean : HasCleanDisk (state g new) → HasCleanDisk (state g old)
    was_clean clean = omega (arith, it.survives.clean, clean)

    -- the change started from the database as it was last written
    turned : IsUsable (state g old) → (db : Database) → D (state g old).now db → IsHeld after rows db
    turned usable db change = turns usable db (subst (λ (first : Database). D first db) (keeps.same usable) change)

    -- what is held after a call that succeeds
    held_done : is_done ≡ true → HasCleanDisk (state g new) → IsHeld after rows (state g new).now
    held_done e clean = let made = it.done e clean in turned (it.usable (clean, made.0)) (state g new).now made.1

    -- the rows of the fields
    rows_at : (ts : List CountedTable) (h : Held S) → (fields ≡ ts) × (later ≡ h) → rows_in (stored_of fields) (state g later).now ≡ rows_in (stored_of ts) (state g h).now
    rows_at ts h at = ap₂ (λ (us : List CountedTable) (k : Held S). rows_in (stored_of us) (state g k).now) at.0 at.1

    -- the call writes these tables and rows
    pub writes : Writes g (seen g old was tables) (seen g new later fields) is_done (catalog_of after) rows
    writes = record {
      done_catalog = λ e. ap catalog_of (if_done e).0;
      done_rows = λ e clean. rows_at after new (if_done e) ∙ rows_held after rows (state g new).now are_after (held_done e clean);
      opened = λ e clean. (it.done e clean).0;
      durable = λ e clean trees may. ((state g new).now, holds after rows (state g new).now are_after (held_done e clean), it.durable e clean trees may);
      kept_catalog = λ e. ap catalog_of (if_not e).0;
      kept_rows = λ e. rows_at tables was (if_not e);
      usable = it.usable;
      survives = survives_weaker (state g old) (state g new) _ _
          (λ clean trees made. (made.0, (made.1, holds after rows made.1 are_after (turned (was_clean clean, made.0) made.1 made.2), made.3))) it.survives;
    }

    -- the fields keep their contents
    pub keeps_on : Keeps (state g new) (state g later) fields
    keeps_on = by is_done refl
      where
        at : (ts : List CountedTable) (h : Held S) → (fields ≡ ts) × (later ≡ h) → Keeps (state g new) (state g h) ts → Keeps (state g new) (state g later) fields
        at ts h is kept = subst₂ (λ (us : List CountedTable) (k : Held S). Keeps (state g new) (state g k) us) (sym is.0) (sym is.1) kept

        by : (b : Bool) → is_done ≡ b → Keeps (state g new) (state g later) fields
        by true e = at after new (if_done e) (record {
          listed = listed_after;
          held = λ clean. held_itself after rows (state g new).now are_after (held_done e clean);
          same = λ _. refl;
        })
        by false e = at tables was (if_not e) (record {
          listed = keeps.listed;
          held = λ clean. keeps.held (was_clean clean);
          same = λ usable. it.refused e usable ∙ keeps.same (it.usable usable);
        })
