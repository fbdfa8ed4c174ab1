use Rattle.escrow_machine.proofs.LawsSteps.{ids_never_fall}
use Rattle.escrow_machine.proofs.laws.ids_never_fall.Goals as goal

pub returns : goal.returns
returns c = ids_never_fall
