use Rattle.std.proofs.Common.{◌≡◌, List, length, ◌++◌, ◌∷◌, [], ap, ap₂, arith, length-append, sym, ◌∙◌}
use Rattle.std.proofs.lemmas.List.{map_more}
use Rattle.escrow_machine.specs.declared.reply.CheckBounds.{CheckBounds}
use Rattle.escrow_machine.specs.Bounds.{check_bounds}
use Rattle.escrow_reserved.proofs.ShownBounds.{form_at, many_forms}
use Rattle.escrow_reserved.proofs.shown_bounds.all_check_bounds.Goals as goal

pub worst-requires-clause-check : goal.worst-requires-clause-check
worst-requires-clause-check c = λ place at. many_forms place.checks c.args.checks.now c.loop-i.i (c.requires.checks place at) c.loop-i-test.true

pub loop-i-preserved : goal.loop-i-preserved
loop-i-preserved c =
    let checks = c.args.checks.now in
    let check = c.index-checks-i.result in
    record {
      many = omega (arith, c.loop-i.invariant.many, length-append c.loop-i.all (c.check_bounds.result ∷ []), ap length c.in_ok-push.ensures.ok);
      shown = λ place reservations at counts.
          let form = form_at place.checks checks c.loop-i.i check (c.requires.checks place at) c.loop-i-test.true c.index-checks-i.is in
          let ends = c.worst.ensures place form.form reservations at form.at counts in
          let is : c.check_bounds.result ≡ check_bounds place.amounts reservations check =
          c.check_bounds.ensures place.amounts reservations (rw form.same at ends.0) (rw form.same at ends.1) in
          c.in_ok-push.ensures.ok
          ∙ ap₂ (λ (bs : List CheckBounds) (b : CheckBounds). bs ++ b ∷ []) (c.loop-i.invariant.shown place reservations at counts) (is ∙ ap (check_bounds place.amounts reservations) c.index-checks-i.is)
          ∙ sym (map_more (check_bounds place.amounts reservations) checks c.loop-i.i check c.loop-i-test.true);
    }
