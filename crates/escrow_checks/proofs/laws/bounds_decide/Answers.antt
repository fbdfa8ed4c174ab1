use Rattle.escrow_checks.proofs.GrantLemmas.{bounds_decide}
use Rattle.escrow_checks.proofs.laws.bounds_decide.Goals as goal

pub returns : goal.returns
returns c = bounds_decide
