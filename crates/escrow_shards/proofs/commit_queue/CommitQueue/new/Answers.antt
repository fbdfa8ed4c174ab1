use Rattle.escrow_shards.proofs.InPlaces.{none_placed}
use Rattle.escrow_shards.proofs.commit_queue.CommitQueue.new.Goals as goal

pub invariant_of-result : goal.invariant_of-result
invariant_of-result c = none_placed
