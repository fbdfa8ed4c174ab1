use Rattle.escrow_bounds.proofs.Reordering.{parts_count}
use Rattle.escrow_bounds.proofs.laws.parts_count.Goals as goal

pub returns : goal.returns
returns c = parts_count
