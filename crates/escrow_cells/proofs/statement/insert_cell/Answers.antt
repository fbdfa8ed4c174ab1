use Rattle.std.proofs.Common.{rules}
use Rattle.escrow_cells.proofs.Insert.{inserts_cell}
use Rattle.escrow_cells.proofs.Inside.{acts, bound_kept}
use Rattle.escrow_cells.proofs.statement.insert_cell.Goals as goal

pub returns-clause-acts : goal.returns-clause-acts
returns-clause-acts g c = acts (inserts_cell _ _ c.args.cell.now) c.write.ensures.wrote (search (rules, bound_kept))
