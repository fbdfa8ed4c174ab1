use Rattle.std.proofs.Common.{◌≡◌, ◌++◌, drop}
use Rattle.sqlite.specs.Held.{state}
use Rattle.sqlite.specs.State.{HasCleanDisk}
use Rattle.escrow_tables.specs.Calls.{Reads}
use Rattle.escrow_tables.specs.Whole.{rows_by_table}
use Rattle.escrow_tables.proofs.tables.Tables.all_rows.Given as goal

abbrev pub invariant-loop-place : goal.invariant-loop-place
invariant-loop-place g l = record {
  reads : Reads g.S.Store l.fn.self l.self;
  rows : HasCleanDisk (state g.S.Store l.self.store) → l.rows.items ++ rows_by_table l.fn.self.rows (drop l.place l.fn.self.catalog) ≡ l.fn.self.rows;
}
