use Rattle.std.proofs.Common.{rules}
use Rattle.escrow_cells.proofs.Insert.{inserts_tab}
use Rattle.escrow_cells.proofs.Inside.{acts}
use Rattle.escrow_cells.proofs.statement.insert_tab.Goals as goal

pub returns-clause-acts : goal.returns-clause-acts
returns-clause-acts g c = acts (inserts_tab _ _ c.args.id c.args.name.now c.args.text.now) c.write.ensures.wrote (search rules)
