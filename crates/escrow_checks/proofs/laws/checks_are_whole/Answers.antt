use Rattle.escrow_checks.proofs.ConditionLemmas.{checks_whole}
use Rattle.escrow_checks.proofs.laws.checks_are_whole.Goals as goal

pub returns : goal.returns
returns c = checks_whole
