use Rattle.std.proofs.Common.{◌≡◌, ◌+◌, ◌<◌, ◌∙◌, sym, ap, arith, List, Some, length, ◌∷◌, [], get_or, length-append}
use Rattle.escrow_statement.specs.declared.statement.Condition.{Condition}
use Rattle.escrow_checks.specs.declared.check.Check.{Check}
use Rattle.escrow_checks.specs.Checks.{check_name, check_of}
use Rattle.escrow_checks.specs.Found.{few, found}
use Rattle.escrow_checks.proofs.FoundLemmas.{from_place, place_more, place_many}
use Rattle.escrow_checks.proofs.condition.add_checks.Goals as goal

pub returns-then-before-eq-MAX_CHECKS-clause-definition : goal.returns-then-before-eq-MAX_CHECKS-clause-definition
returns-then-before-eq-MAX_CHECKS-clause-definition c = λ is others.
    let at : c.loop-k.k < length c.args.text.now.conditions = rw c.as_slice-condition-items.ensures at c.loop-k-test.true in
    ap few (c.loop-k.invariant.rest others)
    ∙ place_many c.args.columns.now c.args.scales.now c.args.text.now.name c.args.text.now.conditions c.loop-k.k c.condition-item.result c.loop-k.checks others at (omega arith)

pub loop-k-preserved : goal.loop-k-preserved
loop-k-preserved c =
    let conditions : List Condition = c.args.text.now.conditions in
    let after = c.in_ok-add_to.ensures.ok in
    let at : c.loop-k.k < length conditions = rw c.as_slice-condition-items.ensures at c.loop-k-test.true in
    let is : c.condition-item.result ≡ get_or conditions c.loop-k.k c.condition-item.result = rw c.as_slice-condition-items.ensures at c.condition-item.is in
    let gives : check_of c.args.columns.now c.args.scales.now (check_name c.args.text.now.name (c.loop-k.k + 1) (length c.loop-k.checks + 1)) c.condition-item.result ≡ Some c.in-Some.check = rw c.len-before.ensures at (sym c.check_of.ensures ∙ c.in-Some.is) in
    record {
      rest = λ others.
          c.loop-k.invariant.rest others
          ∙ place_more c.args.columns.now c.args.scales.now c.args.text.now.name conditions c.loop-k.k c.condition-item.result c.loop-k.checks c.in-Some.check others at is gives
          ∙ ap (λ (cs : List Check). found cs (from_place c.args.columns.now c.args.scales.now c.args.text.now.name conditions (c.loop-k.k + 1) cs) others) (sym after);
      counted = omega (arith, ap (λ (cs : List Check). length cs) after, length-append c.loop-k.checks (c.in-Some.check ∷ []));
      within = omega (arith, ap (λ (cs : List Check). length cs) after, length-append c.loop-k.checks (c.in-Some.check ∷ []));
    }
