use Rattle.escrow_bounds.proofs.Altering.{adopt_counts}
use Rattle.escrow_bounds.proofs.laws.adopt_counts.Goals as goal

pub returns : goal.returns
returns c = adopt_counts
