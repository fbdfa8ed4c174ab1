-- A restart: what the database keeps if nothing is open any more.
use Rattle.sqlite_trees.specs.declared.store.Store.{Ghosts}
use Rattle.std.specs.Prelude.{[], refl}
use Rattle.escrow_bounds.specs.Bounds.{Bounds}
use Rattle.escrow_tables.specs.Calls.{Reads}
use Rattle.escrow_tables.specs.Tables.{Tables}
use Rattle.escrow_journal.specs.Open.{Open, nothing_open}
use Rattle.escrow_core.specs.Inside.{database_of, Keeps}
use Rattle.escrow_machine.specs.State.{State}
use Rattle.escrow_machine.specs.Valid.{IsValid}
use Rattle.escrow_machine.proofs.ValidEmpty.{opened_orderly, opened_valid}
use Rattle.escrow_core.proofs.Serving.{still_clean}

pub restarted_keeps : {S : Type 0} (g : Ghosts S) (t new : Tables S) (o : Open) (places : Bounds) → Keeps g (database_of t o) places → Reads g t new → Keeps g (database_of new nothing_open) []
restarted_keeps g t new o places keeps reads =
    let s : State = (database_of t o).state in
    record {
      kept = record {
        orderly = rw reads.catalog (opened_orderly t.catalog keeps.kept.orderly.tables);
        safe_rows = λ clean.
            let valid : IsValid s = record { orderly = keeps.kept.orderly; safe_rows = keeps.kept.safe_rows (still_clean _ _ _ reads.survives clean) } in
            rw (reads.catalog, reads.rows) (opened_valid s valid).safe_rows;
      };
      placed = λ row. refl;
      of_tables = λ row place at. absurd (cc);
      amounts = λ _ row place at. absurd (cc);
    }
