use Rattle.escrow_machine.proofs.LawsBounds.{bounds_are_reached}
use Rattle.escrow_machine.proofs.laws.bounds_are_reached.Goals as goal

pub returns : goal.returns
returns c = bounds_are_reached
