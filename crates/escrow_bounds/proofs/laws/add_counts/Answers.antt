use Rattle.escrow_bounds.proofs.LawLemmas.{add_counts}
use Rattle.escrow_bounds.proofs.laws.add_counts.Goals as goal

pub returns : goal.returns
returns c = add_counts
