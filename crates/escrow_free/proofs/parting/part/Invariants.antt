use Rattle.std.proofs.Common.{◌≡◌, ◌++◌, drop}
use Rattle.std.specs.Vec.Iter.{into_iter_items}
use Rattle.escrow_free.specs.Ranks.{parted, rested}
use Rattle.escrow_free.proofs.parting.part.Given as goal

abbrev pub invariant-loop-mark : goal.invariant-loop-mark
invariant-loop-mark l = record {
  passes : l.passes.items ++ parted (drop l.mark-index l.marks) (into_iter_items l.outboxes) ≡ parted l.marks (into_iter_items l.initial.outboxes);
  idle : l.idle.items ++ rested (drop l.mark-index l.marks) (into_iter_items l.outboxes) ≡ rested l.marks (into_iter_items l.initial.outboxes);
}
