use Rattle.std.proofs.Common.{◌≡◌, drop, max}
use Rattle.escrow_checks.specs.Scales.{form_scale}
use Rattle.escrow_checks.proofs.coefficients.Coefficients.scale.Given as goal

abbrev pub invariant-loop-i : goal.invariant-loop-i
invariant-loop-i l = max l.most (form_scale (drop l.i l.self) (drop l.i l.scales)) ≡ form_scale l.self l.scales
