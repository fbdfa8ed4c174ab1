use Rattle.std.proofs.Common.{ℕ, pos, ap, ◌∙◌}
use Rattle.escrow_checks.proofs.PartsLemmas.{divides}
use Rattle.escrow_checks.proofs.condition.parts.quotient.Goals as goal

pub nonzero_div-result : goal.nonzero_div-result
nonzero_div-result c = divides c.args.number c.from.result c.args.scale c.requires (c.from.ensures ∙ ap (λ (n : ℕ). pos n) c.unit.ensures.value)
