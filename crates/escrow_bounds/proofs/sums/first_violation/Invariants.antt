use Rattle.std.proofs.Common.{◌≡◌, ℤ, List, drop, map}
use Rattle.std.specs.List.{AllByRecursion}
use Rattle.escrow_checks.specs.Form.{form, IsCovered}
use Rattle.escrow_checks.specs.Grant.{broken}
use Rattle.escrow_checks.specs.declared.check.Check.{Check}
use Rattle.escrow_bounds.specs.Counts.{HaveSums}
use Rattle.escrow_bounds.specs.Listed.{all_tracked}
use Rattle.escrow_bounds.specs.Place.{checks_of}
use Rattle.escrow_bounds.proofs.sums.first_violation.Given as goal

abbrev pub invariant-loop-i : goal.invariant-loop-i
invariant-loop-i l =
    (amounts : List ℤ) (reservations : List (List ℤ)) → l.values ≡ map (λ (check : Check). form check.coeffs amounts) (checks_of (all_tracked l.list l.sums))
    → AllByRecursion (λ (check : Check). IsCovered check.coeffs amounts) (checks_of (all_tracked l.list l.sums)) → HaveSums (all_tracked l.list l.sums) reservations
    → broken (checks_of (drop l.i (all_tracked l.list l.sums))) amounts l.changes reservations ≡ broken (checks_of (all_tracked l.list l.sums)) amounts l.changes reservations
