use Rattle.std.proofs.Common.{refl, arith}
use Rattle.std.proofs.lemmas.Int.{ints}
use Rattle.escrow_checks.proofs.laws.limits.Goals as goal

pub returns : goal.returns
returns c = record {
  conditions = refl;
  written_coefficients = refl;
  coefficients = refl;
  wide_sums = omega (arith, ints);
  terms = refl;
  open_ones = refl;
}
