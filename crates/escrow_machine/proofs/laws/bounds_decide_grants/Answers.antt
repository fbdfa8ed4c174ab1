use Rattle.escrow_machine.proofs.LawsDecide.{bounds_decide_grants}
use Rattle.escrow_machine.proofs.laws.bounds_decide_grants.Goals as goal

pub returns : goal.returns
returns c = bounds_decide_grants
