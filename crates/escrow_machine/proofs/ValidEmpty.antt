-- The state of a new database, and the state after a restart.
use Rattle.std.proofs.Common.{List, [], sym, subst, arith}
use Rattle.std.specs.List.{AllByRecursion}
use Rattle.escrow_num.specs.declared.row.Row.{Row}
use Rattle.escrow_schema.specs.declared.table.TableDef.{TableDef}
use Rattle.escrow_schema.specs.Catalog.{IsCatalog}
use Rattle.escrow_schema.specs.Rows.{AreRowsOf, MeetsChecks}
use Rattle.escrow_machine.specs.State.{State, empty, opened}
use Rattle.escrow_machine.specs.Valid.{AreSafeRows, IsOrderly, IsValid}
use Rattle.escrow_machine.proofs.Applying.{applied_none}
use Rattle.escrow_machine.proofs.Safe.{committed_rows_meet_checks}

-- a state with nothing open is in order
pub opened_orderly : (catalog : List TableDef) → IsCatalog catalog → IsOrderly catalog [] [] 1
opened_orderly catalog tables = record {
  tables = tables;
  reservations_in = tt;
  reservation_order = tt;
  few_reservations = λ session. omega arith;
  few_on_rows = λ name. omega arith;
  savepoints_in = tt;
  savepoint_order = tt;
  few_savepoints = λ session. omega arith;
  first_id = omega arith;
  last_id = omega arith;
}

-- rows that meet their checks are safe if nothing is open
pub opened_safe : (catalog : List TableDef) (rows : List Row) → AreRowsOf catalog rows → AllByRecursion (MeetsChecks catalog) rows → AreSafeRows catalog rows []
opened_safe catalog rows are met = record {
  tables = are.tables;
  row_order = are.row_order;
  few_rows = are.few_rows;
  reserved_rows = tt;
  safe = (subst (λ (rs : List Row). AllByRecursion (MeetsChecks catalog) rs) (sym (applied_none rows)) met, tt);
}

-- the empty database is valid
pub empty_valid : IsValid empty
empty_valid = record {
  orderly = opened_orderly [] (record { tables = tt; order = tt; few = omega arith });
  safe_rows = opened_safe [] [] (record { tables = tt; row_order = tt; few_rows = λ table. omega arith }) tt;
}

-- a restart keeps a valid state valid
pub opened_valid : (s : State) → IsValid s → IsValid (opened s.catalog s.rows)
opened_valid s valid =
    let are : AreRowsOf s.catalog s.rows = record { tables = valid.safe_rows.tables; row_order = valid.safe_rows.row_order; few_rows = valid.safe_rows.few_rows } in
    record {
      orderly = opened_orderly s.catalog valid.orderly.tables;
      safe_rows = opened_safe s.catalog s.rows are (committed_rows_meet_checks s valid);
    }
