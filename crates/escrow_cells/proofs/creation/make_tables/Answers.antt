use Rattle.escrow_cells.proofs.Making.{made_tables}
use Rattle.escrow_cells.proofs.creation.make_tables.Goals as goal

pub returns-clause-acts : goal.returns-clause-acts
returns-clause-acts g c = made_tables _ _ _ _ _ _ c.in_ok-write.ensures.wrote c.in_ok-write-2.ensures.wrote c.in_ok-write-3.ensures.wrote c.write-4.ensures.wrote
