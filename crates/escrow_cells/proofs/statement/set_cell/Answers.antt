use Rattle.std.proofs.Common.{rules}
use Rattle.escrow_cells.proofs.Inside.{acts, bound_kept, tells}
use Rattle.escrow_cells.proofs.Update.{set_found, sets}
use Rattle.escrow_cells.proofs.statement.set_cell.Goals as goal

pub returns-clause-acts : goal.returns-clause-acts
returns-clause-acts g c = acts (sets c.args.table c.args.key c.args.place c.args.value _ _) c.change.ensures.wrote (search (rules, bound_kept))

pub returns-clause-found : goal.returns-clause-found
returns-clause-found g c = λ clean inside.
    tells _ _ _ _ _ _ (set_found c.args.table c.args.key c.args.place c.args.value _ _) c.change.result (c.change.ensures.counted clean inside) (search (rules, bound_kept))
