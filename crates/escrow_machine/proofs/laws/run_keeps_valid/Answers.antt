use Rattle.escrow_machine.proofs.LawsSteps.{run_keeps_valid}
use Rattle.escrow_machine.proofs.laws.run_keeps_valid.Goals as goal

pub returns : goal.returns
returns c = run_keeps_valid
