use Rattle.std.proofs.Common.{◌≡◌, take}
use Rattle.escrow_stats.specs.Tally.{tally_of}
use Rattle.escrow_sessions.specs.Serving.{replies_of}
use Rattle.escrow_sessions.proofs.worker.tally.Given as goal

abbrev pub invariant-loop-receipt : goal.invariant-loop-receipt
invariant-loop-receipt l = l.tally ≡ tally_of (replies_of (take l.receipt-index l.receipts))
