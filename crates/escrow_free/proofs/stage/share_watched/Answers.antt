use Rattle.std.proofs.Common.{arith}
use Rattle.escrow_shards.proofs.Rest.{same_when}
use Rattle.escrow_free.proofs.stage.share_watched.Goals as goal

pub returns-in-Err-clause-open : goal.returns-in-Err-clause-open
returns-in-Err-clause-open g c = same_when c.of_sharing.ensures (c.in-Err.ensures.open (omega arith))
