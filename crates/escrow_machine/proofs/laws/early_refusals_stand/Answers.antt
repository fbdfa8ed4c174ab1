use Rattle.escrow_machine.proofs.LawsSteps.{early_refusals_stand}
use Rattle.escrow_machine.proofs.laws.early_refusals_stand.Goals as goal

pub returns : goal.returns
returns c = early_refusals_stand
