use Rattle.std.proofs.Common.{◌≡◌, take, map, true}
use Rattle.std.specs.List.{list_all}
use Rattle.escrow_checks.specs.Checks.{coefficient_of, is_coefficient}
use Rattle.escrow_checks.specs.Padded.{padded}
use Rattle.escrow_checks.proofs.coefficients.Coefficients.summed.Given as goal

abbrev pub invariant-loop-i : goal.invariant-loop-i
invariant-loop-i l = record {
  written : l.values ≡ padded (map (coefficient_of l.condition) (take l.i l.columns));
  small : list_all is_coefficient (map (coefficient_of l.condition) (take l.i l.columns)) ≡ true;
}
