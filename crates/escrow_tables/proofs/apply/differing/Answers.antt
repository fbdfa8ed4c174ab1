use Rattle.std.proofs.Common.{◌≡◌, ◌+◌, ◌∷◌, ◌++◌, [], Option, length, sym, ap, ◌∙◌}
use Rattle.std.specs.Prelude.{ℤ, unwrap_or}
use Rattle.std.proofs.lemmas.List.{length_push}
use Rattle.std.proofs.lemmas.Bool.Decides.{Decides-int_eq}
use Rattle.std.proofs.lemmas.Slice.Zip.{zip_turn}
use Rattle.escrow_tables.proofs.Changed.{turns_more}
use Rattle.escrow_tables.proofs.apply.differing.Goals as goal
use Rattle.escrow_tables.proofs.apply.differing.Goals.{then-eq, else-eq}

pub loop-old-preserved : goal.loop-old-preserved
loop-old-preserved c =
    let before = c.args.before.now in
    let after = c.args.after.now in
    let yielded = c.loop-old.yielded in
    let old = c.in-Some.old.now in
    let new = c.in-Some.new.now in
    let t = zip_turn before after yielded c.into_iter-old-iterator.result c.loop-old.old-iterator c.next.new.self c.next.result (cc) (cc) c.loop-old.yielded_by _ c.in-Some.is c.next.ensures.steps in
    let next : length (yielded ++ (c.in-Some.old, c.in-Some.new) ∷ []) ≡ length yielded + 1 = length_push yielded (c.in-Some.old, c.in-Some.new) in
    let is : unwrap_or c.if-eq.push old ≡ new = elim c.if-eq.branch [
      | then-eq w ↦ ap (λ (o : Option ℤ). unwrap_or o old) w.push-is ∙ (Decides-int_eq old new).0 (sym c.eq.ensures ∙ w.if-eq.true)
      | else-eq w ↦ ap (λ (o : Option ℤ). unwrap_or o old) w.push-is
    ] in
    rw c.in_ok-push.ensures.ok (turns_more c.loop-old.news before after (length yielded) _ c.if-eq.push old new t.0 t.1 next (t.2 old) (t.3 new) is c.loop-old.invariant)
