use Rattle.escrow_machine.proofs.LawsRows.{committed_values_fit}
use Rattle.escrow_machine.proofs.laws.committed_values_fit.Goals as goal

pub returns : goal.returns
returns c = committed_values_fit
