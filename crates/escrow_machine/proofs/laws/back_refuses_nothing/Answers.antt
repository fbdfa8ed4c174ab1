use Rattle.escrow_machine.proofs.LawsBack.{back_refuses_nothing}
use Rattle.escrow_machine.proofs.laws.back_refuses_nothing.Goals as goal

pub returns : goal.returns
returns c = back_refuses_nothing
