use Rattle.escrow_machine.proofs.LawsGrants.{refused_by_a_choice}
use Rattle.escrow_machine.proofs.laws.refused_by_a_choice.Goals as goal

pub returns : goal.returns
returns c = refused_by_a_choice
