use Rattle.escrow_bounds.proofs.LawLemmas.{release_counts}
use Rattle.escrow_bounds.proofs.laws.release_counts.Goals as goal

pub returns : goal.returns
returns c = release_counts
