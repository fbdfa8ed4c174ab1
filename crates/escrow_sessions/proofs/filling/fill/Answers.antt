use Rattle.std.proofs.Common.{◌≡◌, ℕ, ◌∷◌, [], length, ap, ◌∙◌, append_assoc, sym, add-one, subst}
use Rattle.std.specs.List.{AllByRecursion}
use Rattle.std.proofs.lemmas.Slice.Zip.{all_zipped_more}
use Rattle.std.specs.Vec.Iter.{into_iter_items}
use Rattle.escrow_sessions.proofs.AtOnce.{one_less, room_stays}
use Rattle.escrow_sessions.proofs.filling.fill.Goals as goal

pub loop-x-preserved : goal.loop-x-preserved
loop-x-preserved g c =
    let at = c.loop-x in
    let steps : into_iter_items at.x-iterator ≡ c.in-Some.x ∷ into_iter_items c.next.new.self = c.in-Some.ensures.steps.0 in
    let can = subst (AllByRecursion (λ x. (place : ℕ) → g.F.Fn.pre c.args.f (place, (x, tt)))) steps at.invariant.can in
    record {
      rest = append_assoc at.yielded (c.in-Some.x ∷ []) _ ∙ rw (← steps) at.invariant.rest;
      long = one_less _ _ _ _ at.invariant.long c.in-Some.ensures.steps.1 (ap length steps ∙ sym (add-one _));
      can = can.1;
      so_far = rw c.push_reserved.ensures.items (all_zipped_more _ at.yielded at.ys.items c.in-Some.x c.f.result at.invariant.so_far (_, c.f.ensures));
      room = room_stays _ _ _ _ _ _ at.invariant.room c.in-Some.ensures.steps.1 c.push_reserved.ensures.len c.push_reserved.ensures.capacity;
    }
