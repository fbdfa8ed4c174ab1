use Rattle.escrow_machine.proofs.LawsGrants.{granted_in_every_choice}
use Rattle.escrow_machine.proofs.laws.granted_in_every_choice.Goals as goal

pub returns : goal.returns
returns c = granted_in_every_choice
