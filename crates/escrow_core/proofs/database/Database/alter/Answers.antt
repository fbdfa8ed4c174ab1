use Rattle.std.proofs.Common.{sym, subst}
use Rattle.escrow_statement.specs.declared.statement.Statement.TheVariants as statement
use Rattle.escrow_statement.specs.declared.statement.TableChange.{TableChange}
use Rattle.escrow_core.specs.Serves.{Serves}
use Rattle.escrow_core.specs.Serving.{answer_of}
use Rattle.escrow_core.proofs.database.Database.alter.Goals as goal

pub returns-in-Add : goal.returns-in-Add
returns-in-Add g c =
    let name = c.args.text.now.table in
    subst (λ (asked : TableChange). Serves g.S.Store c.args.session (statement.Alter (record { table = name; change = asked })) c.args.self.now (answer_of c.add_check.result) c.add_check.new.self)
    (sym c.in-Add.is) c.add_check.ensures

pub returns-in-Drop : goal.returns-in-Drop
returns-in-Drop g c =
    let name = c.args.text.now.table in
    subst (λ (asked : TableChange). Serves g.S.Store c.args.session (statement.Alter (record { table = name; change = asked })) c.args.self.now (answer_of c.drop_check.result) c.drop_check.new.self)
    (sym c.in-Drop.is) c.drop_check.ensures
