use Rattle.std.proofs.Common.{◌≡◌, ◌≤◌, ◌++◌, drop}
use Rattle.escrow_free.specs.Ranks.{ranks_from}
use Rattle.escrow_free.proofs.marks.ranks_of.Given as goal

abbrev pub invariant-loop-mark : goal.invariant-loop-mark
invariant-loop-mark l = record {
  few : l.next ≤ l.mark-index;
  so_far : l.ranks.items ++ ranks_from l.next (drop l.mark-index l.marks) ≡ ranks_from 0 l.marks;
}
