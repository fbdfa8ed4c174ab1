use Rattle.escrow_machine.proofs.LawsGrants.{own_increment_not_spent}
use Rattle.escrow_machine.proofs.laws.own_increment_not_spent.Goals as goal

pub returns : goal.returns
returns c = own_increment_not_spent
