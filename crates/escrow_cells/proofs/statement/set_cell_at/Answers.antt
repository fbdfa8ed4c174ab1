use Rattle.std.proofs.Common.{rules}
use Rattle.escrow_cells.proofs.Inside.{acts_counted, bound_kept}
use Rattle.escrow_cells.proofs.UpdateAt.{sets_at, sets_none}
use Rattle.escrow_cells.proofs.statement.set_cell_at.Goals as goal

pub returns-clause-set : goal.returns-clause-set
returns-clause-set g c = λ is.
    acts_counted c.in_ok-found.found (λ ran store. sets_at c.args.table c.args.key c.args.place c.args.value c.args.rowid _ _ _ ran store (let e = is in cc) store) c.in_ok-found.ensures.wrote c.in_ok-found.ensures.counted (search (rules, bound_kept))

pub returns-clause-left : goal.returns-clause-left
returns-clause-left g c = λ is.
    acts_counted c.in_ok-found.found (λ ran store. sets_none c.args.table c.args.key c.args.place c.args.value c.args.rowid _ _ _ ran store (let e = is in cc) store) c.in_ok-found.ensures.wrote c.in_ok-found.ensures.counted (search (rules, bound_kept))
