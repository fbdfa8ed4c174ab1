use Rattle.escrow_outcomes.proofs.Played.{scripts_are_accounted_for}
use Rattle.escrow_outcomes.proofs.laws.scripts_are_accounted_for.Goals as goal

pub returns : goal.returns
returns c = scripts_are_accounted_for
