use Rattle.escrow_bounds.proofs.LawLemmas.{same_extremes}
use Rattle.escrow_bounds.proofs.laws.same_extremes.Goals as goal

pub returns : goal.returns
returns c = same_extremes
