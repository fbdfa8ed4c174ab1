use Rattle.std.proofs.Common.{rules}
use Rattle.escrow_cells.proofs.Insert.{inserts_four}
use Rattle.escrow_cells.proofs.Inside.{acts, bound_kept}
use Rattle.escrow_cells.proofs.statement.insert_four.Goals as goal

pub returns-clause-acts : goal.returns-clause-acts
returns-clause-acts g c = acts (inserts_four _ _ c.args.a.now c.args.b.now c.args.c.now c.args.d.now) c.write.ensures.wrote (search (rules, bound_kept))
