use Rattle.std.proofs.Common.{◌≡◌, [], ◌∙◌, sym}
use Rattle.escrow_num.proofs.Items.{all_at}
use Rattle.escrow_checks.specs.declared.check.Check.{Check}
use Rattle.escrow_checks.specs.Form.{IsCovered}
use Rattle.escrow_checks.specs.Grant.{broken_by}
use Rattle.escrow_reserved.proofs.Violations.{broken_here, broken_past}
use Rattle.escrow_reserved.proofs.violation.first_violation.Goals as goal
use Rattle.escrow_reserved.proofs.violation.first_violation.Goals.{After-is_some}

-- the violation found for a check is the one that the changes cause
found : (c : After-is_some) → c.violation_from-violation.result ≡ broken_by c.check-item.result c.args.amounts.now c.args.changes.now []
found c =
    let amounts = c.args.amounts.now in
    let check = c.check-item.result in
    let covered : IsCovered check.coeffs amounts =
    all_at (λ (other : Check). IsCovered other.coeffs amounts) c.args.checks.now c.loop-check.check-index check c.loop-check-test.true c.check-item.is c.requires in
    rw c.of-listed.ensures at (c.violation_from-violation.ensures amounts [] (rw c.of-row.ensures at c.form_of.ensures.value) covered (c.new.ensures check.coeffs))

pub returns-then-is_some : goal.returns-then-is_some
returns-then-is_some c =
    broken_here c.args.checks.now c.loop-check.check-index c.check-item.result c.args.amounts.now c.args.changes.now [] c.violation_from-violation.result c.loop-check-test.true c.check-item.is
    (found (goal.at.returns-then-is_some c).After-is_some) (sym c.is_some.ensures ∙ c.if-is_some.true)
    ∙ c.loop-check.invariant

pub loop-check-preserved : goal.loop-check-preserved
loop-check-preserved c =
    broken_past c.args.checks.now c.loop-check.check-index c.check-item.result c.args.amounts.now c.args.changes.now [] c.violation_from-violation.result c.loop-check-test.true c.check-item.is
    (found (goal.at.loop-check-preserved c).After-is_some) (sym c.is_some.ensures ∙ c.if-is_some.false)
    ∙ c.loop-check.invariant
