use Rattle.std.proofs.Common.{refl, sym, ◌∙◌}
use Rattle.escrow_num.specs.declared.refusal.Refusal.TheVariants as refusal
use Rattle.escrow_statement.specs.declared.statement.Statement.TheVariants as statement
use Rattle.escrow_machine.specs.declared.reply.Reply.TheVariants as reply
use Rattle.escrow_core.proofs.Served.{rollback_serves, back_serves, back_refuses}
use Rattle.escrow_core.proofs.Serving.{served_apart}
use Rattle.escrow_core.proofs.database.Database.serve_statement.Goals as goal

pub returns-in-Rollback-clause-answers : goal.returns-in-Rollback-clause-answers
returns-in-Rollback-clause-answers g c =
    let d = c.args.self.now in
    let session = c.args.session in
    rw c.in-Rollback.is
    (served_apart g.S.Store session statement.Rollback d c.rollback.new.self (reply.RolledBack c.rollback.result) refl c.rollback.ensures.store
    (rw (c.rollback.ensures.count, c.rollback.ensures.state) (rollback_serves d.state session)))

pub returns-in-Some-clause-answers : goal.returns-in-Some-clause-answers
returns-in-Some-clause-answers g c =
    let d = c.args.self.now in
    let session = c.args.session in
    let name = c.in-RollbackTo.name in
    let count = c.in-Some.count in
    rw c.in-RollbackTo.is
    (served_apart g.S.Store session (statement.RollbackTo name) d c.rollback_to.new.self (reply.RolledBackTo name count) refl c.rollback_to.ensures.store
    (rw c.rollback_to.ensures.state (back_serves d.state session name count (sym c.rollback_to.ensures.count ∙ c.in-Some.is))))

pub returns-in-None-clause-answers : goal.returns-in-None-clause-answers
returns-in-None-clause-answers g c =
    let d = c.args.self.now in
    let session = c.args.session in
    let name = c.in-RollbackTo.name in
    rw c.in-RollbackTo.is
    (served_apart g.S.Store session (statement.RollbackTo name) d c.rollback_to.new.self (reply.Refused refusal.NoSuchSavepoint) refl c.rollback_to.ensures.store
    (rw c.rollback_to.ensures.state (back_refuses d.state session name (sym c.rollback_to.ensures.count ∙ c.in-None.is))))

pub returns-in-Select-clause-answers : goal.returns-in-Select-clause-answers
returns-in-Select-clause-answers g c = rw c.in-Select.is (c.select.ensures c.args.session)

pub returns-in-ShowTable-clause-answers : goal.returns-in-ShowTable-clause-answers
returns-in-ShowTable-clause-answers g c = rw c.in-ShowTable.is (c.show_table.ensures c.args.session)

pub returns-in-ShowJournal-clause-answers : goal.returns-in-ShowJournal-clause-answers
returns-in-ShowJournal-clause-answers g c = rw c.in-ShowJournal.is (c.show_journal.ensures c.args.session)

pub returns-in-ShowBounds-clause-answers : goal.returns-in-ShowBounds-clause-answers
returns-in-ShowBounds-clause-answers g c = rw c.in-ShowBounds.is (c.show_bounds.ensures c.args.session)
