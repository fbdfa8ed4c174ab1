use Rattle.escrow_checks.proofs.ConditionLemmas.{stand_behind}
use Rattle.escrow_checks.proofs.laws.checks_stand_behind.Goals as goal

pub returns : goal.returns
returns c = stand_behind
