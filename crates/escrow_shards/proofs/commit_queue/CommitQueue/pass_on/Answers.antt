use Rattle.std.proofs.Common.{IfNone, subst, sym}
use Rattle.escrow_shards.specs.CommitQueue.{NoneWaits, Queue}
use Rattle.escrow_shards.proofs.Waiting.{lead_may_end}
use Rattle.escrow_shards.proofs.commit_queue.CommitQueue.pass_on.Goals as goal

pub invariant_of-self-in_default : goal.invariant_of-self-in_default
invariant_of-self-in_default c =
    let next = c.next_after-next.result in
    lead_may_end next _ c.self.inside.count c.is_some-self-inside.result c.self.invariant
    (subst (λ (q : Queue). IfNone next (NoneWaits q)) (sym c.self.view_is) c.next_after-next.ensures.none) c.is_some-self-inside.ensures
