use Rattle.escrow_bounds.proofs.LawLemmas.{nothing_counts}
use Rattle.escrow_bounds.proofs.laws.nothing_counts.Goals as goal

pub returns : goal.returns
returns c = nothing_counts
