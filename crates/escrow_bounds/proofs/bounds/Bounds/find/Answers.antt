use Rattle.escrow_bounds.proofs.Standing.{found_at}
use Rattle.escrow_bounds.proofs.bounds.Bounds.find.Goals as goal

pub returns-clause-at : goal.returns-clause-at
returns-clause-at c = rw (← c.self.view_is) (found_at c.self.inside.places.entries c.args.row.now c.get_index_of.result c.get_index_of.ensures.index)
