use Rattle.std.proofs.Common.{◌∙◌, inr, refl, sym}
use Rattle.escrow_num.specs.declared.refusal.Refusal.TheVariants as refusal
use Rattle.escrow_statement.specs.declared.statement.Statement.TheVariants as statement
use Rattle.escrow_machine.specs.declared.reply.Reply.TheVariants as reply
use Rattle.escrow_machine.specs.Asked.{row_name}
use Rattle.escrow_schema.specs.Rows.{row_named, with_plain}
use Rattle.escrow_machine.proofs.Refusals.{none_there}
use Rattle.escrow_core.specs.Inside.{database_of}
use Rattle.escrow_core.proofs.Serving.{Any, MayWrite, failure_serves, reads_itself, refused, refusal_told, tried, tried_some, unwritten_holds, write_holds, write_serves}
use Rattle.escrow_core.proofs.Updating.{MayReplace, may_write, plain_lacks, plain_open, replaced_fit}
use Rattle.escrow_core.proofs.database.Database.replace.Given as given
use Rattle.escrow_core.proofs.database.Database.replace.Goals as goal
use Rattle.escrow_core.proofs.database.Database.replace.Goals.{After-as_slice}

pub returns-then-is_open : goal.returns-then-is_open
returns-then-is_open g c =
    let d = c.args.self.now in
    let text = c.args.text.now in
    refused g.S.Store c.args.session (statement.Update text) d refusal.TransactionOpen
    (plain_open d.state c.args.session text c.args.key c.args.values c.requires.plan (sym c.is_open.ensures ∙ c.if-is_open.true))

-- no transaction is open
may : (g : given.Over) (c : After-as_slice g) → MayReplace g.S.Store (database_of c.self.inside.tables c.self.inside.reserved.txns) c.args.session c.args.text.now c.args.key c.as_slice.result.now
may g c = record {
  planned = rw (← c.self.view_is, ← c.as_slice.ensures) at c.requires.plan;
  closed = rw (← c.self.view_is) at (sym c.is_open.ensures ∙ c.if-is_open.false);
}

pub set_plain-requires-clause-fits : goal.set_plain-requires-clause-fits
set_plain-requires-clause-fits g c =
    let at = (goal.at.set_plain-requires-clause-fits g c).After-as_slice in
    replaced_fit g.S.Store (database_of c.self.inside.tables c.self.inside.reserved.txns) c.args.session c.args.text.now c.args.key c.as_slice.result.now (may g at) c.self.invariant.keeps.kept

writes : (g : given.Over) (c : After-as_slice g)
    → MayWrite g.S.Store c.args.session (statement.Update c.args.text.now) (database_of c.self.inside.tables c.self.inside.reserved.txns)
    (tried (row_named c.self.inside.tables.rows (row_name c.args.text.now.table c.args.key)) refusal.NoSuchRow reply.Updated)
    (record (database_of c.self.inside.tables c.self.inside.reserved.txns).state { rows = with_plain (row_name c.args.text.now.table c.args.key) c.as_slice.result.now c.self.inside.tables.rows }) Any
writes g c = may_write g.S.Store (database_of c.self.inside.tables c.self.inside.reserved.txns) c.args.session c.args.text.now c.args.key c.as_slice.result.now (may g c)

pub returns-in_err-set_plain : goal.returns-in_err-set_plain
returns-in_err-set_plain g c =
    rw (← c.self.view_is)
    (failure_serves g.S.Store c.args.session (statement.Update c.args.text.now) c.self.inside.tables c.set_plain.new.self c.self.inside.reserved.txns _ _ (writes g (goal.at.returns-in_err-set_plain g c).After-as_slice)
    c.from_residual.result c.in_err-set_plain.field-0.0 c.from_residual.ensures.1 c.in_err-set_plain.ensures.writes)

pub invariant_of-self : goal.invariant_of-self
invariant_of-self g c =
    unwritten_holds g.S.Store c.self.inside.tables c.set_plain.new.self c.self.inside.reserved.txns c.self.inside.reserved.places _ _ c.self.inside.recent c.self.inside.recent c.self.invariant c.in_err-set_plain.ensures.writes (λ name. inr refl)

-- the row does not exist
pub returns-then-not-branch : goal.returns-then-not-branch
returns-then-not-branch g c =
    let d = database_of c.self.inside.tables c.self.inside.reserved.txns in
    let after = database_of c.set_plain.new.self c.self.inside.reserved.txns in
    let text = c.args.text.now in
    let at = (goal.at.returns-then-not-branch g c).After-as_slice in
    let is = may g at in
    rw (← c.self.view_is)
    (refusal_told g.S.Store c.args.session (statement.Update text) c.self.inside.tables c.set_plain.new.self c.self.inside.reserved.txns _ _ (writes g at) after refusal.NoSuchRow
    (rw c.if-not-branch.true at c.in_ok-set_plain.ensures.writes) (reads_itself g.S.Store after)
    (λ u. plain_lacks d.state c.args.session text c.args.key c.as_slice.result.now is.planned is.closed
    (none_there (row_named d.state.rows (row_name text.table c.args.key)) (sym (c.in_ok-set_plain.ensures.told u) ∙ c.if-not-branch.true))))

pub invariant_of-self-then-not-branch : goal.invariant_of-self-then-not-branch
invariant_of-self-then-not-branch g c =
    unwritten_holds g.S.Store c.self.inside.tables c.set_plain.new.self c.self.inside.reserved.txns c.self.inside.reserved.places _ _ c.self.inside.recent c.self.inside.recent c.self.invariant (rw c.if-not-branch.true at c.in_ok-set_plain.ensures.writes) (λ name. inr refl)

-- the values were replaced
pub invariant_of-self-2 : goal.invariant_of-self-2
invariant_of-self-2 g c =
    write_holds g.S.Store c.args.session (statement.Update c.args.text.now) c.self.inside.tables c.set_plain.new.self c.self.inside.reserved.txns _ _ (writes g (goal.at.invariant_of-self-2 g c).After-as_slice)
    c.self.inside.reserved.places c.self.inside.recent c.self.inside.recent c.self.invariant (rw c.if-not-branch.false at c.in_ok-set_plain.ensures.writes) (λ name. inr (refl, tt))

pub returns : goal.returns
returns g c =
    rw (← c.self.view_is)
    (write_serves g.S.Store c.args.session (statement.Update c.args.text.now) c.self.inside.tables c.set_plain.new.self c.self.inside.reserved.txns _ _ (writes g (goal.at.returns g c).After-as_slice) reply.Updated refl
    (λ u. tried_some (row_named c.self.inside.tables.rows (row_name c.args.text.now.table c.args.key)) refusal.NoSuchRow reply.Updated (sym c.if-not-branch.false ∙ c.in_ok-set_plain.ensures.told u))
    (rw c.if-not-branch.false at c.in_ok-set_plain.ensures.writes))
