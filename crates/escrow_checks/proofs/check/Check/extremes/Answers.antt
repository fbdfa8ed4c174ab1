use Rattle.escrow_checks.proofs.ExtremesLemmas.{least_by_spread, greatest_by_spread}
use Rattle.escrow_checks.proofs.check.Check.extremes.Goals as goal

pub returns-clause-least : goal.returns-clause-least
returns-clause-least c = λ reservations covered known.
    least_by_spread c.args.self.now.coeffs c.args.amounts.now reservations c.args.spread.now c.form.result c.around.result.0 covered known c.form.ensures.value c.around.ensures.least

pub returns-clause-greatest : goal.returns-clause-greatest
returns-clause-greatest c = λ reservations covered known.
    greatest_by_spread c.args.self.now.coeffs c.args.amounts.now reservations c.args.spread.now c.form.result c.around.result.1 covered known c.form.ensures.value c.around.ensures.greatest
