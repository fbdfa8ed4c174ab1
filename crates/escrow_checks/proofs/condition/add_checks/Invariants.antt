use Rattle.std.proofs.Common.{◌≡◌, ◌+◌, ◌≤◌, List, length, Option}
use Rattle.escrow_checks.specs.declared.check.Check.{Check}
use Rattle.escrow_checks.specs.declared.condition.TheConstants.{MAX_CHECKS}
use Rattle.escrow_checks.specs.Checks.{checks_of_conditions}
use Rattle.escrow_checks.specs.Found.{found}
use Rattle.escrow_checks.proofs.FoundLemmas.{from_place}
use Rattle.escrow_checks.proofs.condition.add_checks.Given as goal

abbrev pub invariant-loop-k : goal.invariant-loop-k
invariant-loop-k l = record {
  rest : (others : Option (List Check))
      → found l.fn.checks (checks_of_conditions l.columns l.scales l.text.name 1 (length l.fn.checks + 1) l.text.conditions) others
      ≡ found l.checks (from_place l.columns l.scales l.text.name l.text.conditions l.k l.checks) others;
  counted : length l.checks ≡ length l.fn.checks + l.k;
  within : length l.checks ≤ MAX_CHECKS;
}
