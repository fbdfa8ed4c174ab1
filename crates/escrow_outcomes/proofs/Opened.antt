-- What a crash leaves of a database is a store.
use Rattle.std.proofs.Common.{sym}
use Rattle.sqlite_trees.specs.declared.store.Store.{Ghosts}
use Rattle.escrow_machine.proofs.Safe.{committed_rows_meet_checks}
use Rattle.escrow_recover.proofs.OneHeld.{one_is_held, held_is_a_store}
use Rattle.escrow_outcomes.specs.Laws.{WhatIsLeftIsOpened}
use Rattle.escrow_outcomes.proofs.Held.{readable_can_be_held}

pub what_is_left_is_opened : {S : Type 0} (g : Ghosts S) → WhatIsLeftIsOpened g
what_is_left_is_opened g database leaves usable valid readable trees may =
    let s = database.state in
    let held = leaves usable trees may in
    let store = held_is_a_store s.catalog s.rows held.0 held.1 (committed_rows_meet_checks s valid) (readable_can_be_held s valid readable) in
    record {
      db = held.0;
      disk = held.2;
      holds = held.1;
      is_store = store.0;
      known = store.1;
      no_other = λ others more is_catalog other.
          let same = one_is_held s.catalog others s.rows more trees valid.orderly.tables is_catalog held other in
          (sym same.0, sym same.1);
    }
