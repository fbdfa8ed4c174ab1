use Rattle.escrow_reserved.proofs.Reading.{found_at}
use Rattle.escrow_reserved.proofs.recent.Recent.find.Goals as goal

pub returns-clause-at : goal.returns-clause-at
returns-clause-at c = rw (← c.self.view_is) (found_at c.self.inside.rows.entries c.args.name.now c.get_index_of.result c.get_index_of.ensures.index)
