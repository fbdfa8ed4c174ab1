use Rattle.std.proofs.Common.{rules}
use Rattle.escrow_cells.proofs.Inside.{acts}
use Rattle.escrow_cells.proofs.Migrating.{updates_format}
use Rattle.escrow_cells.proofs.creation.update_format.Goals as goal

pub returns-clause-acts : goal.returns-clause-acts
returns-clause-acts g c = acts (updates_format _ _) c.write.ensures.wrote (search rules)
