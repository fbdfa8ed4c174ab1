use Rattle.std.proofs.Common.{◌≡◌, ◌∙◌, false, refl, sym}
use Rattle.escrow_num.specs.declared.refusal.Refusal.TheVariants as refusal
use Rattle.escrow_statement.specs.declared.statement.Statement.TheVariants as statement
use Rattle.escrow_machine.specs.declared.reply.Reply.TheVariants as reply
use Rattle.escrow_schema.specs.Rows.{row_named, without_row}
use Rattle.escrow_machine.proofs.Refusals.{none_there}
use Rattle.escrow_num.specs.Order.{same_row}
use Rattle.escrow_reserved.proofs.Reading.{gone_too, kept_without, left_without}
use Rattle.escrow_core.specs.Inside.{database_of}
use Rattle.escrow_core.proofs.Deleting.{delete_lack, delete_reserved, may_delete, reserved_stands}
use Rattle.escrow_core.proofs.Serving.{MayWrite, late_refused, early_serves, failure_serves, reads_itself, refusal_told, tried, tried_some, unwritten_holds, write_holds, write_serves}
use Rattle.escrow_core.proofs.database.Database.delete.Given as given
use Rattle.escrow_core.proofs.database.Database.delete.Goals as goal
use Rattle.escrow_core.proofs.database.Database.delete.Goals.{After-forget}

pub returns-in_err-place : goal.returns-in_err-place
returns-in_err-place g c =
    early_serves g.S.Store c.args.session (statement.Delete c.args.text.now) c.args.self.now c.from_residual.result c.in_err-place.field-0.0 c.from_residual.ensures.1 c.in_err-place.ensures.early

-- a reserved row exists
pub returns-then-is_reserved : goal.returns-then-is_reserved
returns-then-is_reserved g c =
    let d = database_of c.self.inside.tables c.self.inside.reserved.txns in
    let text = c.args.text.now in
    let name = c.in_ok-name.name in
    let early = rw (← c.self.view_is) at (sym c.in_ok-place.ensures.early) in
    let named = rw (← c.self.view_is) at c.in_ok-name.ensures in
    let reserved = sym c.is_reserved.ensures ∙ c.if-is_reserved.true in
    rw (← c.self.view_is)
    (late_refused g.S.Store c.args.session (statement.Delete text) d refusal.RowReserved refl early
    (λ u. delete_reserved d.state c.args.session text name named early (reserved_stands d.state name (c.self.invariant.keeps.kept.safe_rows u) reserved) reserved))

-- the row may be removed
may : (g : given.Over) (c : After-forget g)
    → MayWrite g.S.Store c.args.session (statement.Delete c.args.text.now) (database_of c.self.inside.tables c.self.inside.reserved.txns)
    (tried (row_named c.self.inside.tables.rows c.in_ok-name.name) refusal.NoSuchRow reply.Deleted)
    (record (database_of c.self.inside.tables c.self.inside.reserved.txns).state { rows = without_row c.in_ok-name.name c.self.inside.tables.rows }) (λ row. same_row c.in_ok-name.name row ≡ false)
may g c =
    may_delete g.S.Store c.args.session c.args.text.now c.in_ok-name.name (database_of c.self.inside.tables c.self.inside.reserved.txns) (rw (← c.self.view_is) at c.in_ok-name.ensures)
    (rw (← c.self.view_is) at (sym c.in_ok-place.ensures.early)) (sym c.is_reserved.ensures ∙ c.if-is_reserved.false)

pub returns-in_err-delete : goal.returns-in_err-delete
returns-in_err-delete g c =
    rw (← c.self.view_is)
    (failure_serves g.S.Store c.args.session (statement.Delete c.args.text.now) c.self.inside.tables c.delete.new.self c.self.inside.reserved.txns _ _ (may g (goal.at.returns-in_err-delete g c).After-forget)
    c.from_residual-in_err-delete.result c.in_err-delete.field-0.0 c.from_residual-in_err-delete.ensures.1 c.in_err-delete.ensures.writes)

-- the row does not exist
pub returns-then-not-branch : goal.returns-then-not-branch
returns-then-not-branch g c =
    let d = database_of c.self.inside.tables c.self.inside.reserved.txns in
    let after = database_of c.delete.new.self c.self.inside.reserved.txns in
    let text = c.args.text.now in
    let name = c.in_ok-name.name in
    let early = rw (← c.self.view_is) at (sym c.in_ok-place.ensures.early) in
    let named = rw (← c.self.view_is) at c.in_ok-name.ensures in
    let writes = rw c.if-not-branch.true at c.in_ok-delete.ensures.writes in
    rw (← c.self.view_is)
    (refusal_told g.S.Store c.args.session (statement.Delete text) c.self.inside.tables c.delete.new.self c.self.inside.reserved.txns _ _ (may g (goal.at.returns-then-not-branch g c).After-forget) after refusal.NoSuchRow
    writes (reads_itself g.S.Store after)
    (λ u. delete_lack d.state c.args.session text name named early (sym (none_there (row_named d.state.rows name) (sym (c.in_ok-delete.ensures.told u) ∙ c.if-not-branch.true)))))

pub invariant_of-self : goal.invariant_of-self
invariant_of-self g c =
    unwritten_holds g.S.Store c.self.inside.tables c.delete.new.self c.self.inside.reserved.txns c.self.inside.reserved.places _ _ c.self.inside.recent c.forget.new.self c.self.invariant c.in_err-delete.ensures.writes
    (left_without c.self.inside.recent c.forget.new.self (same_row c.in_ok-name.name) (gone_too c.forget.new.self c.in_ok-name.name c.forget.ensures.gone) c.forget.ensures.others)

pub invariant_of-self-then-not-branch : goal.invariant_of-self-then-not-branch
invariant_of-self-then-not-branch g c =
    unwritten_holds g.S.Store c.self.inside.tables c.delete.new.self c.self.inside.reserved.txns c.self.inside.reserved.places _ _ c.self.inside.recent c.forget.new.self c.self.invariant (rw c.if-not-branch.true at c.in_ok-delete.ensures.writes)
    (left_without c.self.inside.recent c.forget.new.self (same_row c.in_ok-name.name) (gone_too c.forget.new.self c.in_ok-name.name c.forget.ensures.gone) c.forget.ensures.others)

-- the row was removed
pub invariant_of-self-2 : goal.invariant_of-self-2
invariant_of-self-2 g c =
    write_holds g.S.Store c.args.session (statement.Delete c.args.text.now) c.self.inside.tables c.delete.new.self c.self.inside.reserved.txns _ _ (may g (goal.at.invariant_of-self-2 g c).After-forget)
    c.self.inside.reserved.places c.self.inside.recent c.forget.new.self c.self.invariant (rw c.if-not-branch.false at c.in_ok-delete.ensures.writes)
    (kept_without c.self.inside.recent c.forget.new.self (same_row c.in_ok-name.name) (gone_too c.forget.new.self c.in_ok-name.name c.forget.ensures.gone) c.forget.ensures.others)

pub returns : goal.returns
returns g c =
    rw (← c.self.view_is)
    (write_serves g.S.Store c.args.session (statement.Delete c.args.text.now) c.self.inside.tables c.delete.new.self c.self.inside.reserved.txns _ _ (may g (goal.at.returns g c).After-forget) reply.Deleted refl
    (λ u. tried_some (row_named c.self.inside.tables.rows c.in_ok-name.name) refusal.NoSuchRow reply.Deleted (sym c.if-not-branch.false ∙ c.in_ok-delete.ensures.told u)) (rw c.if-not-branch.false at c.in_ok-delete.ensures.writes))
