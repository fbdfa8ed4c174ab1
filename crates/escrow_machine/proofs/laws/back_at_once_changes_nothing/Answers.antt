use Rattle.escrow_machine.proofs.LawsBack.{back_at_once_changes_nothing}
use Rattle.escrow_machine.proofs.laws.back_at_once_changes_nothing.Goals as goal

pub returns : goal.returns
returns c = back_at_once_changes_nothing
