use Rattle.std.proofs.Common.{◌≡◌, ◌⊎◌, inl, inr, length}
use Rattle.escrow_shards.specs.CommitPlaces.{answered}
use Rattle.escrow_shards.proofs.Asking.{no_more_answers}
use Rattle.escrow_shards.proofs.commit_queue.CommitQueue.answer.Goals as goal

pub returns : goal.returns
returns c =
    let at = c.loop-session in
    let sessions = at.session-iterator.a.rest.now in
    let outcomes = at.session-iterator.b.rest.now in
    let end : (length sessions ≡ 0) ⊎ (length outcomes ≡ 0) = elim c.in-None.ensures.steps [ inl e ↦ inl e.1.0 | inr e ↦ inr e.1.0 ] in
    no_more_answers sessions outcomes at.self (answered c.args.sessions.now c.args.outcomes.now c.args.self.now) end at.invariant.left
