use Rattle.escrow_machine.proofs.LawsIds.{ids_tell_the_order}
use Rattle.escrow_machine.proofs.laws.ids_tell_the_order.Goals as goal

pub returns : goal.returns
returns c = ids_tell_the_order
