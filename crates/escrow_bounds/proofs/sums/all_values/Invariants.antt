use Rattle.std.proofs.Common.{◌≡◌, map, take}
use Rattle.std.specs.List.{AllByRecursion}
use Rattle.escrow_checks.specs.Contribution.{IsContribution}
use Rattle.escrow_checks.specs.Form.{form}
use Rattle.escrow_checks.specs.declared.check.Check.{Check}
use Rattle.escrow_bounds.proofs.sums.all_values.Given as goal

abbrev pub invariant-loop-check : goal.invariant-loop-check
invariant-loop-check l = record {
  values : l.values.items ≡ map (λ (check : Check). form check.coeffs l.amounts) (take l.check-index l.checks);
  within : AllByRecursion IsContribution l.values.items;
}
