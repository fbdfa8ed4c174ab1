use Rattle.std.proofs.Common.{◌≤◌, length}
use Rattle.escrow_shards.proofs.Matching.{Fits}
use Rattle.escrow_shards.proofs.close.matched.matched.Given as goal

abbrev pub invariant-loop-entry : goal.invariant-loop-entry
invariant-loop-entry l = record { within : l.next ≤ length l.receipts; fits : Fits l.session l.receipts l.entries l.from l.entry-index l.next }
