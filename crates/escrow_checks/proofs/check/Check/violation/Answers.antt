use Rattle.std.proofs.Common.{ℤ, List, ap, ◌∙◌}
use Rattle.escrow_checks.specs.Grant.{broken_by}
use Rattle.escrow_checks.proofs.check.Check.violation.Goals as goal

pub returns : goal.returns
returns c = λ reservations covered known.
    c.violation_from.ensures c.args.amounts.now reservations c.form.ensures.value covered known
    ∙ ap (λ (changes : List ℤ). broken_by c.args.self.now c.args.amounts.now changes reservations) c.of.ensures
