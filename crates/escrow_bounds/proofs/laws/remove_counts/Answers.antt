use Rattle.escrow_bounds.proofs.LawLemmas.{remove_counts}
use Rattle.escrow_bounds.proofs.laws.remove_counts.Goals as goal

pub returns : goal.returns
returns c = remove_counts
