use Rattle.escrow_machine.proofs.LawsSteps.{step_keeps_valid}
use Rattle.escrow_machine.proofs.laws.step_keeps_valid.Goals as goal

pub returns : goal.returns
returns c = step_keeps_valid
