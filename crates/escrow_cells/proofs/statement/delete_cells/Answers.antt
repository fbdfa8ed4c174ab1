use Rattle.std.proofs.Common.{rules}
use Rattle.escrow_cells.proofs.Delete.{deletes_cells}
use Rattle.escrow_cells.proofs.Inside.{acts}
use Rattle.escrow_cells.proofs.statement.delete_cells.Goals as goal

pub returns-clause-acts : goal.returns-clause-acts
returns-clause-acts g c = acts (deletes_cells c.args.table _ _) c.write.ensures.wrote (search rules)
