use Rattle.std.proofs.Common.{◌≡◌, ◌++◌, drop}
use Rattle.std.specs.Vec.Iter.{into_iter_items}
use Rattle.escrow_free.specs.Ranks.{merged}
use Rattle.escrow_free.proofs.parting.merge.Given as goal

abbrev pub invariant-loop-mark : goal.invariant-loop-mark
invariant-loop-mark l =
    l.outboxes.items ++ merged (drop l.mark-index l.marks) (into_iter_items l.served) (into_iter_items l.idle)
    ≡ merged l.marks (into_iter_items l.initial.served) (into_iter_items l.initial.idle)
