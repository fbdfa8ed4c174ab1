use Rattle.escrow_machine.proofs.Settling.{settled_in_any_order}
use Rattle.escrow_machine.proofs.laws.settled_in_any_order.Goals as goal

pub returns : goal.returns
returns c = settled_in_any_order
