use Rattle.std.proofs.Common.{◌≡◌, take}
use Rattle.std.specs.Prelude.{All}
use Rattle.escrow_checks.specs.Coefficients.{IsCoefficient}
use Rattle.escrow_checks.specs.Padded.{padded}
use Rattle.escrow_checks.specs.Scales.{written_coeffs}
use Rattle.escrow_checks.proofs.coefficients.Coefficients.written.Given as goal

abbrev pub invariant-loop-i : goal.invariant-loop-i
invariant-loop-i l = record {
  written : l.values ≡ padded (take l.i (written_coeffs l.scale l.self l.scales));
  are : All IsCoefficient (take l.i (written_coeffs l.scale l.self l.scales));
}
