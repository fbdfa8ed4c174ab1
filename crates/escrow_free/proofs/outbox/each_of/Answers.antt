use Rattle.std.proofs.Common.{◌≡◌, ◌∷◌, [], length, ap, ◌∙◌, append_assoc, sym, add-one}
use Rattle.std.specs.Vec.Iter.{into_iter_items}
use Rattle.escrow_sessions.proofs.Places.{zip_one}
use Rattle.escrow_free.proofs.Marking.{one_less}
use Rattle.escrow_free.proofs.outbox.each_of.Goals as goal

pub loop-x-preserved : goal.loop-x-preserved
loop-x-preserved g c =
    let at = c.loop-x in
    let steps : into_iter_items at.x-iterator ≡ c.in-Some.x ∷ into_iter_items c.next.new.self = c.in-Some.ensures.steps.0 in
    record {
      rest = append_assoc at.yielded (c.in-Some.x ∷ []) _ ∙ rw (← steps) at.invariant.rest;
      long = one_less _ _ _ _ at.invariant.long c.in-Some.ensures.steps.1 (ap length steps ∙ sym (add-one _));
      so_far = rw c.in_ok-push.ensures.items (zip_one _ at.yielded at.ys.items c.in-Some.x c.f.result at.invariant.so_far c.f.ensures);
    }
