use Rattle.std.proofs.Common.{◌≡◌, true, take}
use Rattle.sqlite.specs.Held.{state}
use Rattle.escrow_cells.specs.Inside.{ActsBy}
use Rattle.escrow_cells.proofs.statement.do_each.Given as goal

abbrev pub invariant-loop-step : goal.invariant-loop-step
invariant-loop-step g l = record {
  same : l.tx.conn.ghost_name ≡ l.initial.tx.conn.ghost_name;
  acts : ActsBy (state g.S.Store l.initial.tx.conn.now) (state g.S.Store l.tx.conn.now) true (take l.step-index l.steps);
}
