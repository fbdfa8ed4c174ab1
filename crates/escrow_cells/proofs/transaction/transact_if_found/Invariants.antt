use Rattle.std.proofs.Common.{◌≡◌, true, List, ◌∷◌, ◌++◌, length}
use Rattle.std.specs.Slice.Iter.{chunks_rest, chunks_size}
use Rattle.sqlite.specs.Held.{state}
use Rattle.sqlite.specs.State.{HasCleanDisk}
use Rattle.escrow_cells.specs.declared.step.Step.{Step}
use Rattle.escrow_cells.specs.Step.{Does, finds}
use Rattle.escrow_cells.specs.Store.{IsStore, cells}
use Rattle.escrow_cells.specs.Inside.{GoesOn}
use Rattle.escrow_cells.proofs.transaction.transact_if_found.Given as goal

abbrev pub invariant-loop-some : goal.invariant-loop-some
invariant-loop-some g l = record {
  can_next : (goal.iterator-loop-some g).can_next l.some-iterator;
  is_finite : (goal.iterator-loop-some g).is_finite l.some-iterator;
  by_four : chunks_size l.some-iterator ≡ 4;
  same : l.tx.conn.ghost_name ≡ l.initial.tx.conn.ghost_name;
  goes_on : (done : List Step) × GoesOn (length (l.first ∷ done)) (Does (l.first ∷ done)) (state g.S.Store l.fn.conn) (state g.S.Store l.tx.conn.now) × (done ++ chunks_rest l.some-iterator ≡ l.rest);
  found : HasCleanDisk (state g.S.Store l.tx.conn.now) → IsStore (state g.S.Store l.fn.conn).now → finds l.first (cells (state g.S.Store l.fn.conn).now) ≡ true;
}
