use Rattle.escrow_shards.specs.CommitPlaces.{NoneWaitsIn}
use Rattle.escrow_shards.proofs.commit_queue.CommitQueue.first_waiting.Given as goal

abbrev pub invariant-loop-before : goal.invariant-loop-before
invariant-loop-before l = NoneWaitsIn l.fn.before l.before l.fn.self.places
