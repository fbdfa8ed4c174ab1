use Rattle.std.proofs.Common.{◌≤◌, ap, arith}
use Rattle.escrow_shards.specs.declared.commit_queue.CommitQueue.TheInside.{Inside}
use Rattle.escrow_shards.proofs.Waiting.{few_wait}
use Rattle.escrow_shards.proofs.commit_queue.CommitQueue.put.Goals.{in-Asked, in_default-found}
use Rattle.escrow_shards.proofs.commit_queue.CommitQueue.put.Goals as goal

pub overflow_add-self : goal.overflow_add-self
overflow_add-self c =
    let less : c.match-found.self-inside.count ≤ c.self.inside.count = elim c.match-found.branch [
      | in-Asked w ↦ omega (arith, ap (λ (i : Inside). i.count) w.self-inside-is)
      | in_default-found w ↦ omega (arith, ap (λ (i : Inside). i.count) w.self-inside-is)
    ] in
    let few = few_wait c.self.inside.places in
    omega (arith, less, few, c.self.invariant.counted, c.self.invariant.count)
