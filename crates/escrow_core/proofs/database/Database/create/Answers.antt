use Rattle.std.proofs.Common.{inr, refl}
use Rattle.escrow_num.specs.declared.refusal.Refusal.TheVariants as refusal
use Rattle.escrow_statement.specs.declared.statement.Statement.TheVariants as statement
use Rattle.escrow_machine.specs.declared.reply.Reply.TheVariants as reply
use Rattle.escrow_schema.specs.Catalog.{with_table}
use Rattle.escrow_core.specs.Inside.{database_of}
use Rattle.escrow_core.proofs.Creating.{full_refused, may_create, new_table}
use Rattle.escrow_core.proofs.Serving.{Any, MayWrite, failure_serves, refusal_serves, refused, unwritten_holds, write_holds, write_serves}
use Rattle.escrow_core.proofs.database.Database.create.Given as given
use Rattle.escrow_core.proofs.database.Database.create.Goals as goal
use Rattle.escrow_core.proofs.database.Database.create.Goals.{After-create}

pub returns-in_err-table : goal.returns-in_err-table
returns-in_err-table g c =
    refusal_serves g.S.Store c.args.session (statement.Create c.args.text.now) c.args.self.now c.from_residual.result c.in_err-table.field-0.0 c.from_residual.ensures.1 c.in_err-table.ensures.refused

pub returns-then-len-ge-MAX_TABLES : goal.returns-then-len-ge-MAX_TABLES
returns-then-len-ge-MAX_TABLES g c =
    let d = database_of c.self.inside.tables c.self.inside.reserved.txns in
    let text = c.args.text.now in
    let early = rw (← c.self.view_is) at c.in_ok-table.ensures.early in
    let full = rw c.len.ensures.len at c.if-len-ge-MAX_TABLES.true in
    rw (← c.self.view_is) (refused g.S.Store c.args.session (statement.Create text) d refusal.TooManyTables (full_refused d.state c.args.session text c.in_ok-table.table early c.in_ok-table.ensures.table full))

pub create-requires-clause-new : goal.create-requires-clause-new
create-requires-clause-new g c =
    let early = rw (← c.self.view_is) at c.in_ok-table.ensures.early in
    new_table (database_of c.self.inside.tables c.self.inside.reserved.txns).state c.args.session c.args.text.now c.in_ok-table.table early c.in_ok-table.ensures.table

-- the write may be made
may : (g : given.Over) (c : After-create g)
    → MayWrite g.S.Store c.args.session (statement.Create c.args.text.now) (database_of c.self.inside.tables c.self.inside.reserved.txns) (reply.Created c.args.text.now.table)
    (record (database_of c.self.inside.tables c.self.inside.reserved.txns).state { catalog = with_table c.in_ok-table.table c.self.inside.tables.catalog }) Any
may g c =
    may_create g.S.Store c.args.session c.args.text.now (database_of c.self.inside.tables c.self.inside.reserved.txns) c.in_ok-table.table (rw (← c.self.view_is) at c.in_ok-table.ensures.early) c.in_ok-table.ensures.table
    (rw c.len.ensures.len at c.if-len-ge-MAX_TABLES.false)

pub returns-in_err-create : goal.returns-in_err-create
returns-in_err-create g c =
    rw (← c.self.view_is)
    (failure_serves g.S.Store c.args.session (statement.Create c.args.text.now) c.self.inside.tables c.create.new.self c.self.inside.reserved.txns _ _ (may g (goal.at.returns-in_err-create g c).After-create)
    c.from_residual-in_err-create.result c.in_err-create.field-0.0 c.from_residual-in_err-create.ensures.1 c.in_err-create.ensures)

pub invariant_of-self-2 : goal.invariant_of-self-2
invariant_of-self-2 g c =
    write_holds g.S.Store c.args.session (statement.Create c.args.text.now) c.self.inside.tables c.create.new.self c.self.inside.reserved.txns _ _ (may g (goal.at.invariant_of-self-2 g c).After-create)
    c.self.inside.reserved.places c.self.inside.recent c.self.inside.recent c.self.invariant c.in_ok-create.ensures (λ name. inr (refl, tt))

pub returns : goal.returns
returns g c =
    rw (← c.self.view_is)
    (write_serves g.S.Store c.args.session (statement.Create c.args.text.now) c.self.inside.tables c.create.new.self c.self.inside.reserved.txns _ _ (may g (goal.at.returns g c).After-create) (reply.Created c.args.text.now.table) refl (λ _. refl) c.in_ok-create.ensures)

pub invariant_of-self : goal.invariant_of-self
invariant_of-self g c =
    unwritten_holds g.S.Store c.self.inside.tables c.create.new.self c.self.inside.reserved.txns c.self.inside.reserved.places _ _ c.self.inside.recent c.self.inside.recent c.self.invariant c.in_err-create.ensures (λ name. inr refl)
