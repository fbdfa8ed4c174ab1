use Rattle.std.proofs.Common.{◌≡◌, List, ◌++◌, length}
use Rattle.std.specs.Slice.Iter.{chunks_rest, chunks_size}
use Rattle.sqlite.specs.Held.{state}
use Rattle.escrow_cells.specs.declared.step.Step.{Step}
use Rattle.escrow_cells.specs.Step.{Does}
use Rattle.escrow_cells.specs.Inside.{GoesOn}
use Rattle.escrow_cells.proofs.transaction.transact.Given as goal

abbrev pub invariant-loop-some : goal.invariant-loop-some
invariant-loop-some g l = record {
  can_next : (goal.iterator-loop-some g).can_next l.some-iterator;
  is_finite : (goal.iterator-loop-some g).is_finite l.some-iterator;
  by_four : chunks_size l.some-iterator ≡ 4;
  same : l.tx.conn.ghost_name ≡ l.initial.tx.conn.ghost_name;
  goes_on : (done : List Step) × GoesOn (length done) (Does done) (state g.S.Store l.fn.conn) (state g.S.Store l.tx.conn.now) × (done ++ chunks_rest l.some-iterator ≡ l.steps);
}
