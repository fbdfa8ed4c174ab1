use Rattle.escrow_machine.proofs.LawsSteps.{refused_changes_nothing}
use Rattle.escrow_machine.proofs.laws.refused_changes_nothing.Goals as goal

pub returns : goal.returns
returns c = refused_changes_nothing
