use Rattle.escrow_machine.proofs.LawsEnds.{any_order_of_ends}
use Rattle.escrow_machine.proofs.laws.any_order_of_ends.Goals as goal

pub returns : goal.returns
returns c = any_order_of_ends
