use Rattle.escrow_machine.proofs.LawsEnds.{transactions_commute}
use Rattle.escrow_machine.proofs.laws.transactions_commute.Goals as goal

pub returns : goal.returns
returns c = transactions_commute
