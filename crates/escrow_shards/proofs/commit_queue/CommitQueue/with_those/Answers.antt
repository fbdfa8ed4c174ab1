use Rattle.std.proofs.Common.{◌≡◌, ℕ, ◌+◌, ◌<◌, get_or, length, Vec, Global, arith, sym, ap, ◌∙◌}
use Rattle.escrow_shards.specs.declared.commit_queue.CommitState.TheVariants as state
use Rattle.escrow_shards.specs.CommitQueue.{at, Queue}
use Rattle.escrow_shards.proofs.Waiting.{next_waits, next_does_not_wait}
use Rattle.escrow_shards.proofs.commit_queue.CommitQueue.with_those.Goals.{then-waits+in_ok-push-2, else-waits}
use Rattle.escrow_shards.proofs.commit_queue.CommitQueue.with_those.Goals as goal

pub loop-before-preserved : goal.loop-before-preserved
loop-before-preserved c =
    let places = c.args.self.now.places in
    let before = c.loop-before.before in
    let number : c.in-Some.session ≡ before + 1 = c.in-Some.ensures.1 in
    let below : before < length places = omega (arith, c.loop-before-test.true, c.self.invariant.count, ap (λ (q : Queue). length q.places) c.self.view_is) in
    let here : at c.args.self.now c.in-Some.session ≡ get_or places before state.Free = ap (λ (k : ℕ). get_or places k state.Free) (omega (arith, number)) in
    let all_is = c.loop-before.invariant in
    elim c.if-waits.branch [
      | then-waits+in_ok-push-2 w ↦
          next_waits places before c.in-Some.session c.loop-before.sessions.items c.if-waits.sessions.items _ below number (ap (λ (v : Vec ℕ Global). v.items) w.sessions-is ∙ w.in_ok-push-2.ensures.items)
          (sym here ∙ c.waits.ensures.0 w.if-waits.true) all_is
      | else-waits w ↦
          next_does_not_wait places before c.loop-before.sessions.items c.if-waits.sessions.items _ below (ap (λ (v : Vec ℕ Global). v.items) w.sessions-is)
          (λ asked. let never = w.if-waits.ensures.1 (here ∙ asked) in absurd (cc)) all_is
    ]
