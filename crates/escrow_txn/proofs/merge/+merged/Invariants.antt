use Rattle.std.proofs.Common.{length}
use Rattle.escrow_txn.proofs.merge.+merged.Given as goal

abbrev pub decreases-merged : goal.decreases-merged
decreases-merged l = length l.journals.now
