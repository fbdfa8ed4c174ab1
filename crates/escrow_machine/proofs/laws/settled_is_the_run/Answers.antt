use Rattle.escrow_machine.proofs.Settling.{settled_is_the_run}
use Rattle.escrow_machine.proofs.laws.settled_is_the_run.Goals as goal

pub returns : goal.returns
returns c = settled_is_the_run
