use Rattle.escrow_machine.proofs.LawsLimit.{sessions_fill_first}
use Rattle.escrow_machine.proofs.laws.sessions_fill_first.Goals as goal

pub returns : goal.returns
returns c = sessions_fill_first
