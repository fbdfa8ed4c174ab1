use Rattle.escrow_bounds.proofs.LawLemmas.{reserve_counts}
use Rattle.escrow_bounds.proofs.laws.reserve_counts.Goals as goal

pub returns : goal.returns
returns c = reserve_counts
