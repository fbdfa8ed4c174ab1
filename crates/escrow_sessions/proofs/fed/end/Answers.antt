use Rattle.std.proofs.Common.{◌<◌, ◌≤◌, ◌∙◌, length, sym, subst}
use Rattle.escrow_sessions.proofs.Placing.{ended_one, ended_all}
use Rattle.escrow_sessions.proofs.fed.end.Goals as goal

pub loop-place-preserved : goal.loop-place-preserved
loop-place-preserved g c =
    let at = c.loop-place in
    let below : at.place < length at.slots.items =
    subst (λ n. at.place < n) (c.len-place-end.ensures ∙ c.args.slots.now.ok.0 ∙ sym at.invariant.count) c.loop-place-test.true in
    ended_one at.place c.args.slots.now.items at.slots.items c.index_mut.result.now c.send.new.self at.invariant below c.index_mut.ensures.value c.send.ensures

pub returns : goal.returns
returns g c =
    let at = c.loop-place in
    let past : length c.args.slots.now.items ≤ at.place = subst (λ n. n ≤ at.place) (c.len-place-end.ensures ∙ c.args.slots.now.ok.0) c.loop-place-test.false in
    ended_all at.place c.args.slots.now.items at.slots.items past at.invariant
