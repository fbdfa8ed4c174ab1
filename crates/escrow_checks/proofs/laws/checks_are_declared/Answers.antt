use Rattle.escrow_checks.proofs.ConditionLemmas.{checks_declared}
use Rattle.escrow_checks.proofs.laws.checks_are_declared.Goals as goal

pub returns : goal.returns
returns c = checks_declared
