use Rattle.escrow_bounds.proofs.Altering.{drop_check_counts}
use Rattle.escrow_bounds.proofs.laws.drop_check_counts.Goals as goal

pub returns : goal.returns
returns c = drop_check_counts
