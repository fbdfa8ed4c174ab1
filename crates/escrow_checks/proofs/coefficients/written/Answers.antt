use Rattle.std.proofs.Common.{sym, subst, ℤ}
use Rattle.escrow_checks.specs.Coefficients.{IsCoefficient}
use Rattle.escrow_checks.specs.Scales.{factor}
use Rattle.escrow_checks.proofs.FactorLemmas.{divides_in_64}
use Rattle.escrow_checks.proofs.ScaledLemmas.{factor-least}
use Rattle.escrow_checks.proofs.coefficients.written.Goals as goal

pub nonzero_div-get : goal.nonzero_div-get
nonzero_div-get c =
    let small : IsCoefficient c.get.result = subst (λ (z : ℤ). IsCoefficient z) (sym c.get.ensures.value) c.requires in
    divides_in_64 c.get.result c.factor.result (factor c.args.scale c.args.own) small c.factor.ensures.value (factor-least c.args.scale c.args.own) c.factor.ensures.within
