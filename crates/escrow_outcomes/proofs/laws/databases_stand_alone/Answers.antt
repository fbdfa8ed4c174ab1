use Rattle.escrow_outcomes.proofs.Apart.{databases_stand_alone}
use Rattle.escrow_outcomes.proofs.laws.databases_stand_alone.Goals as goal

pub returns : goal.returns
returns c = databases_stand_alone
