use Rattle.std.proofs.Common.{rules}
use Rattle.escrow_cells.proofs.Delete.{deletes_row, row_found}
use Rattle.escrow_cells.proofs.Inside.{acts, bound_kept, tells}
use Rattle.escrow_cells.proofs.statement.delete_row.Goals as goal

pub returns-clause-acts : goal.returns-clause-acts
returns-clause-acts g c = acts (deletes_row c.args.table c.args.key _ _) c.change.ensures.wrote (search (rules, bound_kept))

pub returns-clause-found : goal.returns-clause-found
returns-clause-found g c = λ clean inside. tells _ _ _ _ _ _ (row_found c.args.table c.args.key _ _) c.change.result (c.change.ensures.counted clean inside) (search (rules, bound_kept))
