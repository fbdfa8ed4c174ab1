use Rattle.std.proofs.Common.{◌≡◌, ◌++◌, ◌∷◌, drop}
use Rattle.escrow_shards.specs.CommitQueue.{asking}
use Rattle.escrow_shards.proofs.commit_queue.CommitQueue.with_those.Given as goal

abbrev pub invariant-loop-before : goal.invariant-loop-before
invariant-loop-before l = l.sessions.items ++ asking l.before (drop l.before l.self.places) ≡ l.fn.first ∷ asking 0 l.self.places
