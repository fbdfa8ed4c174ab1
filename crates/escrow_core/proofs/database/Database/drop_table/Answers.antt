use Rattle.std.specs.Prelude.{◌≡◌, bytes_eq, false}
use Rattle.std.proofs.Common.{refl, sym}
use Rattle.escrow_statement.specs.declared.statement.Statement.TheVariants as statement
use Rattle.escrow_machine.specs.declared.reply.Reply.TheVariants as reply
use Rattle.escrow_machine.specs.Transition.{after_drop}
use Rattle.escrow_reserved.proofs.Reading.{kept_without, left_without}
use Rattle.escrow_core.specs.Inside.{database_of}
use Rattle.escrow_core.proofs.Dropping.{may_drop}
use Rattle.escrow_core.proofs.Serving.{MayWrite, early_serves, failure_serves, unwritten_holds, write_holds, write_serves}
use Rattle.escrow_core.proofs.database.Database.drop_table.Given as given
use Rattle.escrow_core.proofs.database.Database.drop_table.Goals as goal
use Rattle.escrow_core.proofs.database.Database.drop_table.Goals.{After-drop_table}

pub returns-in_err-place : goal.returns-in_err-place
returns-in_err-place g c =
    early_serves g.S.Store c.args.session (statement.Drop c.args.name) c.args.self.now c.from_residual.result c.in_err-place.field-0.0 c.from_residual.ensures.1 c.in_err-place.ensures.early

pub drop_table-requires : goal.drop_table-requires
drop_table-requires g c = (c.args.name, rw (← c.self.view_is) at c.in_ok-place.ensures.place)

-- the write may be made
may : (g : given.Over) (c : After-drop_table g)
    → MayWrite g.S.Store c.args.session (statement.Drop c.args.name) (database_of c.self.inside.tables c.self.inside.reserved.txns) (reply.Dropped c.args.name) (after_drop (database_of c.self.inside.tables c.self.inside.reserved.txns).state c.args.name)
    (λ row. bytes_eq row.table c.args.name ≡ false)
may g c =
    may_drop g.S.Store c.args.session c.args.name (database_of c.self.inside.tables c.self.inside.reserved.txns) (rw (← c.self.view_is) at (sym c.in_ok-place.ensures.early))

pub returns-in_err-drop_table : goal.returns-in_err-drop_table
returns-in_err-drop_table g c =
    let placed = rw (← c.self.view_is) at c.in_ok-place.ensures.place in
    rw (← c.self.view_is)
    (failure_serves g.S.Store c.args.session (statement.Drop c.args.name) c.self.inside.tables c.drop_table.new.self c.self.inside.reserved.txns _ _ (may g (goal.at.returns-in_err-drop_table g c).After-drop_table)
    c.from_residual-in_err-drop_table.result c.in_err-drop_table.field-0.0 c.from_residual-in_err-drop_table.ensures.1 (c.in_err-drop_table.ensures c.args.name placed))

pub invariant_of-self-2 : goal.invariant_of-self-2
invariant_of-self-2 g c =
    let placed = rw (← c.self.view_is) at c.in_ok-place.ensures.place in
    write_holds g.S.Store c.args.session (statement.Drop c.args.name) c.self.inside.tables c.drop_table.new.self c.self.inside.reserved.txns _ _ (may g (goal.at.invariant_of-self-2 g c).After-drop_table)
    c.self.inside.reserved.places c.self.inside.recent c.forget_table.new.self c.self.invariant (c.in_ok-drop_table.ensures c.args.name placed)
    (kept_without c.self.inside.recent c.forget_table.new.self (λ row. bytes_eq row.table c.args.name) c.forget_table.ensures.gone c.forget_table.ensures.others)

pub returns : goal.returns
returns g c =
    let placed = rw (← c.self.view_is) at c.in_ok-place.ensures.place in
    rw (← c.self.view_is)
    (write_serves g.S.Store c.args.session (statement.Drop c.args.name) c.self.inside.tables c.drop_table.new.self c.self.inside.reserved.txns _ _ (may g (goal.at.returns g c).After-drop_table)
    (reply.Dropped c.args.name) refl (λ _. refl) (c.in_ok-drop_table.ensures c.args.name placed))

pub invariant_of-self : goal.invariant_of-self
invariant_of-self g c =
    let placed = rw (← c.self.view_is) at c.in_ok-place.ensures.place in
    unwritten_holds g.S.Store c.self.inside.tables c.drop_table.new.self c.self.inside.reserved.txns c.self.inside.reserved.places _ _ c.self.inside.recent c.forget_table.new.self c.self.invariant (c.in_err-drop_table.ensures c.args.name placed)
    (left_without c.self.inside.recent c.forget_table.new.self (λ row. bytes_eq row.table c.args.name) c.forget_table.ensures.gone c.forget_table.ensures.others)
