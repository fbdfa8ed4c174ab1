use Rattle.std.proofs.Common.{◌≡◌, ◌<◌, ◌∷◌, ◌++◌, [], length, ap, ◌∙◌, append_assoc, sym, subst, arith, add-one, refl}
use Rattle.std.specs.List.{AllByRecursion}
use Rattle.std.specs.Vec.Iter.{into_iter_items}
use Rattle.std.proofs.lemmas.List.{nil_from_length, append-nil}
use Rattle.escrow_sessions.proofs.Places.{all_parts}
use Rattle.escrow_free.specs.Dealing.{AreDealt}
use Rattle.escrow_free.proofs.Dealt.{dealt_one}
use Rattle.escrow_free.proofs.Marking.{one_less}
use Rattle.escrow_free.proofs.dealing.deal.Goals as goal

pub loop-place-init : goal.loop-place-init
loop-place-init c =
    let gives = c.into_iter-place-iterator.ensures.into_iter_gives in
    record {
      rest = refl;
      long = c.into_iter-place-iterator.result.rest.ok.0;
      named = subst (AllByRecursion (λ x. x.0 < length c.args.passes.items)) (sym gives.0) (all_parts (λ x. x.0 < length c.args.passes.items) c.args.items.items c.requires);
      so_far = c.in_ok-feeds.ensures;
    }

pub index_mut-requires : goal.index_mut-requires
index_mut-requires c =
    let at = c.loop-place in
    let steps : into_iter_items at.place-iterator ≡ (c.in-Some.place, c.in-Some.request) ∷ into_iter_items c.next.new.self = c.in-Some.ensures.steps.0 in
    let named = subst (AllByRecursion (λ x. x.0 < length c.args.passes.items)) steps at.invariant.named in
    subst (λ n. c.in-Some.place < n) (sym at.invariant.so_far.count ∙ sym at.feeds.ok.0) named.0

pub loop-place-preserved : goal.loop-place-preserved
loop-place-preserved c =
    let at = c.loop-place in
    let steps : into_iter_items at.place-iterator ≡ (c.in-Some.place, c.in-Some.request) ∷ into_iter_items c.next.new.self = c.in-Some.ensures.steps.0 in
    let named = subst (AllByRecursion (λ x. x.0 < length c.args.passes.items)) steps at.invariant.named in
    record {
      rest = append_assoc at.yielded ((c.in-Some.place, c.in-Some.request) ∷ []) _ ∙ rw (← steps) at.invariant.rest;
      long = one_less _ _ _ _ at.invariant.long c.in-Some.ensures.steps.1 (ap length steps ∙ sym (add-one _));
      named = named.1;
      so_far =
          dealt_one c.args.passes.items at.yielded at.feeds.items c.in-Some.place c.in-Some.request c.index_mut.result.now c.add.new.feed at.invariant.so_far
          (subst (λ n. c.in-Some.place < n) (sym at.invariant.so_far.count) named.0) c.index_mut.ensures.value c.in_ok-add.ensures;
    }

pub returns : goal.returns
returns c =
    let at = c.loop-place in
    let gives = c.into_iter-place-iterator.ensures.into_iter_gives in
    let none : into_iter_items at.place-iterator ≡ [] = nil_from_length (into_iter_items at.place-iterator) (omega (arith, at.invariant.long, c.in-None.ensures.steps.0)) in
    subst (λ xs. AreDealt c.args.passes.items xs at.feeds.items) (sym (append-nil at.yielded) ∙ ap (λ r. at.yielded ++ r) (sym none) ∙ at.invariant.rest ∙ gives.0) at.invariant.so_far
