use Rattle.std.proofs.Common.{◌+◌, ◌∷◌, ◌++◌, ℕ, List, [], arith, sym, ap, refl, subst, ◌∙◌, append_assoc, drop, vec_len}
use Rattle.std.proofs.lemmas.List.{append-nil, drop_all, drop_more}
use Rattle.escrow_serve.specs.declared.waiting.Waiting.{Waiting}
use Rattle.escrow_serve.proofs.GaveLemmas.{Gaves, gave_all, gave_begun, gave_more}
use Rattle.escrow_serve.proofs.GiveLemmas.{Gives, given_none, given_more, given_all}
use Rattle.escrow_serve.proofs.waiting.give_all.Goals as goal

pub loop-waits-init : goal.loop-waits-init
loop-waits-init c = record {
  parts = refl;
  each = refl;
  len = omega arith;
  capacity = omega arith;
  asked = λ items asked. asked;
  given = (
    [],
    sym (append-nil c.args.replies.now.items),
    λ sessions states new items is are runs. given_none sessions (vec_len c.args.parts.now) states new c.args.totals.now.items items c.args.waiting.now c.args.parts.now.items is are runs,
  );
  gave = (
    [],
    sym (append-nil c.args.replies.now.items),
    λ sessions items is are ready. gave_begun sessions (vec_len c.args.parts.now) items c.args.waiting.now c.args.parts.now.items is are ready,
  );
}

pub loop-waits-preserved : goal.loop-waits-preserved
loop-waits-preserved c =
    let so_far = c.loop-waits.invariant in
    let given = c.give.ensures.given in
    let gave = c.give.ensures.gave in
    let place = c.loop-waits.waits-index in
    let all = c.args.waiting.now in
    let waits = c.waits-item.result in
    let next = drop_more all place waits c.loop-waits-test.true ∙ ap (λ (w : Waiting). w ∷ drop (place + 1) all) (sym c.waits-item.is) in
    let gives = λ (sessions : ℕ). subst (λ (n : ℕ). Gives sessions n waits c.loop-waits.totals.items given.0 c.give.new.totals.items c.loop-waits.parts.items c.give.new.parts.items) so_far.parts (given.2 sessions) in
    record {
      parts = c.give.ensures.parts ∙ so_far.parts;
      each = c.give.ensures.each ∙ so_far.each;
      len = omega (arith, c.give.ensures.len, so_far.len);
      capacity = omega (arith, c.give.ensures.capacity, so_far.capacity);
      asked = λ items asked. c.give.ensures.asked items (so_far.asked items asked);
      given = (
        so_far.given.0 ++ given.0,
        given.1 ∙ ap (λ (l : List ℕ). l ++ given.0) so_far.given.1 ∙ append_assoc c.args.replies.now.items so_far.given.0 given.0,
        λ sessions states new items is are runs.
            given_more sessions (vec_len c.args.parts.now) states new c.args.totals.now.items c.loop-waits.totals.items c.give.new.totals.items items waits (drop place all) (drop (place + 1) all)
            c.loop-waits.parts.items c.give.new.parts.items so_far.given.0 given.0 next (gives sessions) (so_far.given.2 sessions states new items is are runs),
      );
      gave = (
        so_far.gave.0 ++ gave.0,
        gave.1 ∙ ap (λ (l : List ℕ). l ++ gave.0) so_far.gave.1 ∙ append_assoc c.args.replies.now.items so_far.gave.0 gave.0,
        λ sessions items is are ready.
            let one = subst (λ (n : ℕ). Gaves sessions n waits gave.0 c.loop-waits.parts.items c.give.new.parts.items) so_far.parts (gave.2 sessions) in
            gave_more sessions (vec_len c.args.parts.now) items waits (drop place all) (drop (place + 1) all) c.args.parts.now.items c.loop-waits.parts.items c.give.new.parts.items so_far.gave.0 gave.0 next one
            (so_far.gave.2 sessions items is are ready),
      );
    }

pub returns-clause-given : goal.returns-clause-given
returns-clause-given c =
    let given = c.loop-waits.invariant.given in
    let place = c.loop-waits.waits-index in (
      given.0,
      given.1,
      λ sessions states new items is are runs.
          given_all sessions (vec_len c.args.parts.now) states new c.args.totals.now.items c.loop-waits.totals.items items (drop place c.args.waiting.now) c.loop-waits.parts.items given.0
          (drop_all place c.args.waiting.now c.loop-waits-test.false) (given.2 sessions states new items is are runs),
    )

pub returns-clause-gave : goal.returns-clause-gave
returns-clause-gave c =
    let gave = c.loop-waits.invariant.gave in
    let place = c.loop-waits.waits-index in (
      gave.0,
      gave.1,
      λ sessions items is are ready.
          gave_all sessions (vec_len c.args.parts.now) items (drop place c.args.waiting.now) c.args.parts.now.items c.loop-waits.parts.items gave.0
          (drop_all place c.args.waiting.now c.loop-waits-test.false) (gave.2 sessions items is are ready),
    )
