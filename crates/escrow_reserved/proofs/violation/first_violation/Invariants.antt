use Rattle.std.proofs.Common.{◌≡◌, [], drop}
use Rattle.escrow_checks.specs.Grant.{broken}
use Rattle.escrow_reserved.proofs.violation.first_violation.Given as goal

abbrev pub invariant-loop-check : goal.invariant-loop-check
invariant-loop-check l = broken (drop l.check-index l.checks) l.amounts l.changes [] ≡ broken l.checks l.amounts l.changes []
