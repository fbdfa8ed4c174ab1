use Rattle.std.proofs.Common.{length, ◌+◌, ◌-◌}
use Rattle.escrow_txn.proofs.Merging.{IsMerged}
use Rattle.escrow_txn.proofs.merge.merge.Given as goal

abbrev pub invariant-loop-i : goal.invariant-loop-i
invariant-loop-i l = IsMerged l.front l.back l.i l.j l.all.items

abbrev pub decreases-loop-i : goal.decreases-loop-i
decreases-loop-i l = (length l.front - l.i) + (length l.back - l.j)
