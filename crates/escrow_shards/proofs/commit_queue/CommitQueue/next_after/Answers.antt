use Rattle.std.proofs.Common.{◌≤◌, length, ap, arith}
use Rattle.escrow_num.specs.declared.session.TheConstants.Session.{MAX_SHARED}
use Rattle.escrow_shards.specs.CommitQueue.{Queue}
use Rattle.escrow_shards.proofs.Waiting.{none_in_either}
use Rattle.escrow_shards.proofs.commit_queue.CommitQueue.next_after.Goals as goal

pub returns-in-None-clause-none : goal.returns-in-None-clause-none
returns-in-None-clause-none c =
    let queue = c.args.self.now in
    let few : length queue.places ≤ MAX_SHARED = omega (arith, c.self.invariant.count, ap (λ (q : Queue). length q.places) c.self.view_is) in
    none_in_either c.first_waiting-in-None.result queue c.get.result MAX_SHARED c.min.result few
    (omega (arith, c.min.ensures, c.get-in-None.ensures.value, c.get.ensures.value)) c.in-None.ensures.none c.first_waiting-in-None.ensures.none
