use Rattle.std.proofs.Common.{◌≡◌, Some, None, refl, sym}
use Rattle.escrow_num.specs.declared.refusal.Refusal.TheVariants as refusal
use Rattle.escrow_statement.specs.declared.statement.Statement.TheVariants as statement
use Rattle.escrow_schema.specs.Catalog.{table_named}
use Rattle.escrow_schema.specs.Print.{canonical}
use Rattle.escrow_machine.specs.declared.reply.Reply.TheVariants as reply
use Rattle.escrow_core.specs.Inside.{database_of}
use Rattle.escrow_core.proofs.Queries.{show_refuses, show_serves, show_wants}
use Rattle.escrow_core.proofs.Serving.{left_by, served_apart}
use Rattle.escrow_core.proofs.database.Database.show_table.Goals as goal

pub returns-in_default : goal.returns-in_default
returns-in_default g c = λ session.
    let d = database_of c.self.inside.tables c.self.inside.reserved.txns in
    let unknown : table_named d.state.catalog c.args.name ≡ None = sym c.in_default.ensures.found in
    rw (← c.self.view_is)
    (served_apart g.S.Store session (statement.ShowTable c.args.name) d d (reply.Refused refusal.NoSuchTable) refl refl (show_refuses d.state session c.args.name unknown))

pub returns-in_err-text : goal.returns-in_err-text
returns-in_err-text g c = λ session.
    let d = database_of c.self.inside.tables c.self.inside.reserved.txns in
    let table = c.in-Some.table.now in
    let named : table_named d.state.catalog c.args.name ≡ Some table = sym c.in-Some.ensures.found in
    rw (← c.self.view_is, left_by _ _ c.from_residual.ensures.1)
    (served_apart g.S.Store session (statement.ShowTable c.args.name) d d (reply.Refused refusal.Memory) refl refl (show_wants d.state session c.args.name table named))

pub returns : goal.returns
returns g c = λ session.
    let d = database_of c.self.inside.tables c.self.inside.reserved.txns in
    let table = c.in-Some.table.now in
    let named : table_named d.state.catalog c.args.name ≡ Some table = sym c.in-Some.ensures.found in
    rw (← c.self.view_is, c.in_ok-text.ensures.text)
    (served_apart g.S.Store session (statement.ShowTable c.args.name) d d (reply.Table (canonical table)) refl refl (show_serves d.state session c.args.name table named))
