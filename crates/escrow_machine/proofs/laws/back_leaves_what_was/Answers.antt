use Rattle.escrow_machine.proofs.LawsSavepoints.{back_leaves_what_was}
use Rattle.escrow_machine.proofs.laws.back_leaves_what_was.Goals as goal

pub returns : goal.returns
returns c = back_leaves_what_was
