use Rattle.std.proofs.Common.{◌≡◌, Some, inr, refl, sym}
use Rattle.escrow_bounds.specs.Altered.{IsWithout}
use Rattle.escrow_schema.specs.Altered.{declared_place}
use Rattle.escrow_schema.specs.Catalog.{table_named}
use Rattle.escrow_schema.specs.declared.table.TableDef.{TableDef}
use Rattle.escrow_machine.proofs.Safe.{some_at}
use Rattle.escrow_core.specs.Altering.{drops}
use Rattle.escrow_core.specs.Inside.{database_of}
use Rattle.escrow_core.proofs.Altering.{MayAlter, alter_fails, alter_holds, alter_serves, altered_place, alters_like, checks_without, may_drop_check}
use Rattle.escrow_core.proofs.Serving.{early_serves, unwritten_holds}
use Rattle.escrow_core.proofs.database.Database.drop_check.Given as given
use Rattle.escrow_core.proofs.database.Database.drop_check.Goals as goal
use Rattle.escrow_core.proofs.database.Database.drop_check.Goals.{In_ok-altered}

pub returns-in_err-place : goal.returns-in_err-place
returns-in_err-place g c =
    early_serves g.S.Store c.args.session (drops c.args.table c.args.name) c.args.self.now c.from_residual.result c.in_err-place.field-0.0 c.from_residual.ensures.1 c.in_err-place.ensures.early

-- the write may be made
may : (g : given.Over) (c : In_ok-altered g)
    → MayAlter g.S.Store c.args.session (drops c.args.table c.args.name) (database_of c.self.inside.tables c.self.inside.reserved.txns) c.args.table c.table.result.now c.in_ok-altered.altered
may g c =
    let s = (database_of c.self.inside.tables c.self.inside.reserved.txns).state in
    let old = c.table.result.now in
    let named : table_named s.catalog c.args.table ≡ Some old = c.table.ensures.named c.args.table (rw (← c.self.view_is) at c.in_ok-place.ensures.place) in
    let at : declared_place old c.args.name ≡ Some c.in_ok-place.index =
    some_at (λ (t : TableDef). declared_place t c.args.name ≡ Some c.in_ok-place.index) (table_named s.catalog c.args.table) old named (rw (← c.self.view_is) at c.in_ok-place.ensures.index) in
    may_drop_check g.S.Store c.args.session c.args.table c.args.name (database_of c.self.inside.tables c.self.inside.reserved.txns) old c.in_ok-altered.altered c.in_ok-place.index
    (rw (← c.self.view_is) at (sym c.in_ok-place.ensures.early)) named at c.in_ok-altered.ensures.made c.in_ok-altered.ensures.table

pub redefine-requires-clause-place : goal.redefine-requires-clause-place
redefine-requires-clause-place g c =
    altered_place g.S.Store c.args.session (drops c.args.table c.args.name) c.self.inside.tables c.self.inside.tables c.self.inside.reserved.txns c.args.table c.table.result.now c.in_ok-altered.altered
    (may g (goal.at.redefine-requires-clause-place g c).In_ok-altered) c.in_ok-place.place (rw (← c.self.view_is) at c.in_ok-place.ensures.place)

pub redefine-requires-clause-alike : goal.redefine-requires-clause-alike
redefine-requires-clause-alike g c =
    alters_like g.S.Store c.args.session (drops c.args.table c.args.name) c.self.inside.tables c.self.inside.tables c.self.inside.reserved.txns c.args.table c.table.result.now c.in_ok-altered.altered
    (may g (goal.at.redefine-requires-clause-alike g c).In_ok-altered)

pub invariant_of-self : goal.invariant_of-self
invariant_of-self g c =
    unwritten_holds g.S.Store c.self.inside.tables c.redefine.new.self c.self.inside.reserved.txns c.self.inside.reserved.places _ _ c.self.inside.recent c.self.inside.recent c.self.invariant c.in_err-redefine.ensures (λ name. inr refl)

pub returns-in_err-redefine : goal.returns-in_err-redefine
returns-in_err-redefine g c =
    rw (← c.self.view_is)
    (alter_fails g.S.Store c.args.session (drops c.args.table c.args.name) c.self.inside.tables c.redefine.new.self c.self.inside.reserved.txns c.args.table c.table.result.now c.in_ok-altered.altered
    (may g (goal.at.returns-in_err-redefine g c).In_ok-altered) c.from_residual-in_err-redefine.result c.in_err-redefine.field-0.0 c.from_residual-in_err-redefine.ensures.1 c.in_err-redefine.ensures)

pub invariant_of-self-2 : goal.invariant_of-self-2
invariant_of-self-2 g c =
    rw c.drop_check.ensures.txns
    (alter_holds g.S.Store c.args.session (drops c.args.table c.args.name) c.self.inside.tables c.redefine.new.self c.self.inside.reserved.txns c.args.table c.table.result.now c.in_ok-altered.altered
    (may g (goal.at.invariant_of-self-2 g c).In_ok-altered) (λ _. IsWithout c.in_ok-place.index) c.self.inside.reserved.places c.drop_check.new.self.places c.self.inside.recent c.self.invariant c.in_ok-redefine.ensures
    c.drop_check.ensures.places (λ _ _ _ step. step.amounts) (checks_without c.table.result.now c.in_ok-altered.altered c.in_ok-place.index c.in_ok-altered.ensures.made))

pub returns : goal.returns
returns g c =
    rw (← c.self.view_is, c.drop_check.ensures.txns)
    (alter_serves g.S.Store c.args.session (drops c.args.table c.args.name) c.self.inside.tables c.redefine.new.self c.self.inside.reserved.txns c.args.table c.table.result.now c.in_ok-altered.altered
    (may g (goal.at.returns g c).In_ok-altered) c.in_ok-redefine.ensures)
