use Rattle.std.proofs.Common.{◌≡◌, length, map, take}
use Rattle.std.specs.List.{AllByRecursion}
use Rattle.escrow_checks.specs.Contribution.{IsContribution}
use Rattle.escrow_bounds.proofs.Listing.{value_of}
use Rattle.escrow_bounds.proofs.sums.revalue.Given as goal

abbrev pub invariant-loop-i : goal.invariant-loop-i
invariant-loop-i l = record {
  each : length l.values ≡ length l.sums;
  values : take l.i l.values ≡ map (value_of l.list l.amounts) (take l.i l.sums);
  within : AllByRecursion IsContribution (take l.i l.values);
}
