use Rattle.escrow_machine.proofs.Settling.{settled_stays_valid}
use Rattle.escrow_machine.proofs.laws.settled_stays_valid.Goals as goal

pub returns : goal.returns
returns c = settled_stays_valid
