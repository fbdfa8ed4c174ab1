use Rattle.std.proofs.Common.{◌<◌, ◌∙◌, length, sym, subst}
use Rattle.escrow_sessions.proofs.Placing.{further_one, names_place}
use Rattle.escrow_sessions.proofs.fed.feed.Goals as goal

pub index_mut-requires : goal.index_mut-requires
index_mut-requires g c =
    let at = c.loop-place in
    let named = names_place g.I.Iterator.next_gives (length c.args.slots.now.items) at.yielded (c.in-Some.place, c.in-Some.request) c.args.items c.into_iter-place-iterator.result at.place-iterator c.next.new.self
    c.requires.places c.into_iter-place-iterator.ensures.into_iter_gives at.yielded_by c.in-Some.ensures.steps in
    subst (λ n. c.in-Some.place < n) (sym at.invariant.further.count ∙ sym at.slots.ok.0) named

pub loop-place-preserved : goal.loop-place-preserved
loop-place-preserved g c =
    let at = c.loop-place in
    let named = names_place g.I.Iterator.next_gives (length c.args.slots.now.items) at.yielded (c.in-Some.place, c.in-Some.request) c.args.items c.into_iter-place-iterator.result at.place-iterator c.next.new.self
    c.requires.places c.into_iter-place-iterator.ensures.into_iter_gives at.yielded_by c.in-Some.ensures.steps in
    record {
      can = c.in-Some.ensures.goes.keeps;
      ends = (c.in-Some.ensures.goes.on at.invariant.ends).1;
      further =
          further_one at.yielded c.args.slots.now.items at.slots.items c.in-Some.place c.in-Some.request c.index_mut.result.now c.send.new.self at.invariant.further
          (subst (λ n. c.in-Some.place < n) (sym at.invariant.further.count) named) c.index_mut.ensures.value c.send.ensures;
    }
