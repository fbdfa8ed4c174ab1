use Rattle.escrow_outcomes.proofs.Held.{readable_can_be_held}
use Rattle.escrow_outcomes.proofs.laws.readable_can_be_held.Goals as goal

pub returns : goal.returns
returns c = readable_can_be_held
