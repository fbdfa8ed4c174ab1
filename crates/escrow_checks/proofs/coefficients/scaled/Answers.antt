use Rattle.std.proofs.Common.{◌≡◌, ◌≤◌, ℤ, true, ap, ◌∙◌}
use Rattle.std.specs.Int.RustNames.{unsigned_abs}
use Rattle.escrow_checks.specs.Checks.{is_coefficient}
use Rattle.escrow_checks.proofs.FactorLemmas.{factor_abs, scaled_fits, scaled_in_64}
use Rattle.escrow_checks.proofs.coefficients.scaled.Goals as goal

pub overflow_mul-get : goal.overflow_mul-get
overflow_mul-get c =
    let k : ℤ = c.get.result in
    let f : ℤ = c.factor.result in
    let small : unsigned_abs f ≤ 1000000 = factor_abs f _ c.factor.ensures.value c.factor.ensures.within in
    let written : is_coefficient k ≡ true = ap is_coefficient c.get.ensures.value ∙ c.requires in
    rw (scaled_in_64 k f written small) (scaled_fits k f written small)
