use Rattle.escrow_outcomes.proofs.Apart.{cuts_are_outputs}
use Rattle.escrow_outcomes.proofs.laws.cuts_are_outputs.Goals as goal

pub returns : goal.returns
returns c = cuts_are_outputs
