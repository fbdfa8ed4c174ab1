use Rattle.std.proofs.Common.{◌≤◌, length}
use Rattle.escrow_shards.proofs.Matching.{FitParts}
use Rattle.escrow_shards.proofs.close.matched.matched_parts.Given as goal

abbrev pub invariant-loop-part : goal.invariant-loop-part
invariant-loop-part g l = record { within : l.next ≤ length l.receipts; fits : FitParts l.database l.session l.receipts l.parts l.part-index l.next }
