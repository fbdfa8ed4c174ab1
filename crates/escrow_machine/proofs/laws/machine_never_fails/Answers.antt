use Rattle.escrow_machine.proofs.LawsSteps.{machine_never_fails}
use Rattle.escrow_machine.proofs.laws.machine_never_fails.Goals as goal

pub returns : goal.returns
returns c = machine_never_fails
