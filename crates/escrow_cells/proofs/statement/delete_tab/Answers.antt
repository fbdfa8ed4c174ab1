use Rattle.std.proofs.Common.{rules}
use Rattle.escrow_cells.proofs.Delete.{deletes_tab}
use Rattle.escrow_cells.proofs.Inside.{acts}
use Rattle.escrow_cells.proofs.statement.delete_tab.Goals as goal

pub returns-clause-acts : goal.returns-clause-acts
returns-clause-acts g c = acts (deletes_tab c.args.id _ _) c.write.ensures.wrote (search rules)
