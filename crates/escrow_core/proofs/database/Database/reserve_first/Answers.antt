use Rattle.std.specs.Prelude.{◌≡◌, false, Some, IsSomeAnd, length}
use Rattle.std.proofs.Common.{sym, ap, subst, ◌∙◌}
use Rattle.sqlite.specs.Held.{state}
use Rattle.sqlite.specs.State.{HasCleanDisk}
use Rattle.escrow_num.specs.Session.{IsSession}
use Rattle.escrow_schema.specs.Catalog.{place_named, table_named}
use Rattle.escrow_schema.specs.Column.{reservables}
use Rattle.escrow_schema.specs.declared.table.TableDef.{TableDef}
use Rattle.escrow_machine.specs.State.{State, is_reserved}
use Rattle.escrow_machine.proofs.Safe.{some_at}
use Rattle.escrow_machine.proofs.Shapes.{covered}
use Rattle.escrow_reserved.specs.Placed.{amounts_named}
use Rattle.escrow_core.specs.Inside.{database_of}
use Rattle.escrow_core.specs.Database.{Database}
use Rattle.escrow_core.specs.Serving.{OnlyReads}
use Rattle.escrow_core.proofs.Serving.{left_by}
use Rattle.escrow_core.proofs.Updating.{IsPlanned, first_fails, first_granted, first_keeps, first_lacks, first_refused, same_keeps, short_plan, still_planned}
use Rattle.escrow_core.proofs.database.Database.reserve_first.Given as given
use Rattle.escrow_core.proofs.database.Database.reserve_first.Goals as goal
use Rattle.escrow_core.proofs.database.Database.reserve_first.Goals.{After-as_slice}

pub returns-in_err-amounts : goal.returns-in_err-amounts
returns-in_err-amounts g c =
    rw (left_by _ _ c.from_residual.ensures.1)
    (first_fails g.S.Store c.args.session c.args.text.now c.args.name c.args.changes c.args.self.now c.amounts.new.self (record { table = c.requires.table; plan = c.requires.plan }) c.requires.first
    c.amounts.ensures.only_reads c.in_err-amounts.field-0.0)

pub returns-in_default : goal.returns-in_default
returns-in_default g c =
    first_lacks g.S.Store c.args.session c.args.text.now c.args.name c.args.changes c.args.self.now c.amounts.new.self (record { table = c.requires.table; plan = c.requires.plan }) c.requires.first
    c.amounts.ensures.only_reads (λ clean. rw c.in_default.is at (c.in_ok-amounts.ensures.told clean))

-- the state is the same as before the row was looked for
same : (g : given.Over) (c : After-as_slice g) → (database_of c.self.inside.tables c.self.inside.reserved.txns).state ≡ c.args.self.now.state
same g c = ap (λ (d : Database _). d.state) c.self.view_is ∙ c.amounts.ensures.only_reads.same

-- the row's table, and the row's amounts
named : (g : given.Over) (c : After-as_slice g) → table_named c.self.inside.tables.catalog c.args.name.table ≡ Some c.table.result.now
named g c = c.table.ensures.named c.args.name.table (subst (λ (s : State). place_named s.catalog c.args.name.table ≡ Some c.args.place) (sym (same g c)) c.requires.place)

many : (g : given.Over) (c : After-as_slice g) → length c.in-Some.amounts ≡ length (reservables c.table.result.now.columns)
many g c =
    some_at (λ (t : TableDef). length c.in-Some.amounts ≡ length (reservables t.columns)) (table_named c.self.inside.tables.catalog c.args.name.table) c.table.result.now (named g c)
    (subst (λ (s : State). IsSomeAnd (table_named s.catalog c.args.name.table) (λ t. length c.in-Some.amounts ≡ length (reservables t.columns))) (sym (same g c)) (rw c.in-Some.is at c.in_ok-amounts.ensures.many))

pub grant_first-requires-clause-covered : goal.grant_first-requires-clause-covered
grant_first-requires-clause-covered g c =
    rw (c.as_slice-checks.ensures, c.as_slice.ensures) (covered c.table.result.now c.in-Some.amounts c.table.ensures.table (many g c))

-- the row was read, its changes are planned, and it is not reserved
looked : (g : given.Over) (c : After-as_slice g) → OnlyReads g.S.Store c.args.self.now (database_of c.self.inside.tables c.self.inside.reserved.txns)
looked g c = rw (← c.self.view_is) at c.amounts.ensures.only_reads

planned : (g : given.Over) (c : After-as_slice g) → IsPlanned (database_of c.self.inside.tables c.self.inside.reserved.txns).state c.args.text.now c.args.name c.args.changes
planned g c = still_planned c.args.self.now.state (database_of c.self.inside.tables c.self.inside.reserved.txns).state c.args.text.now c.args.name c.args.changes (looked g c).same (record { table = c.requires.table; plan = c.requires.plan })

free : (g : given.Over) (c : After-as_slice g) → is_reserved (database_of c.self.inside.tables c.self.inside.reserved.txns).state c.args.name ≡ false
free g c = subst (λ (s : State). is_reserved s c.args.name ≡ false) (sym (looked g c).same) c.requires.first

read : (g : given.Over) (c : After-as_slice g) → HasCleanDisk (state g.S.Store c.self.inside.tables.store) → amounts_named c.self.inside.tables.rows c.args.name ≡ Some c.in-Some.amounts
read g c clean =
    ap (λ (s : State). amounts_named s.rows c.args.name) (looked g c).same ∙ sym (rw c.in-Some.is at ((rw (← c.self.view_is) at c.in_ok-amounts.ensures.told) clean))

pub grant_first-requires-clause-short : goal.grant_first-requires-clause-short
grant_first-requires-clause-short g c =
    short_plan (database_of c.self.inside.tables c.self.inside.reserved.txns).state c.args.text.now c.args.name.key c.args.changes c.self.invariant.keeps.kept.orderly (planned g c).plan

-- after a refusal, each row has the same place as before
pub invariant_of-self : goal.invariant_of-self
invariant_of-self g c = record {
  keeps = rw c.in_err-id.ensures.refused
      (same_keeps g.S.Store (database_of c.self.inside.tables c.self.inside.reserved.txns) c.self.inside.reserved.places c.grant_first.new.self.places c.self.invariant.keeps c.in_err-id.ensures.same);
  known = c.self.invariant.known;
  read = c.self.invariant.read;
}

pub returns-in_err-id : goal.returns-in_err-id
returns-in_err-id g c =
    let at = (goal.at.returns-in_err-id g c).After-as_slice in
    rw (c.in_err-id.ensures.refused, left_by _ _ c.from_residual-in_err-id.ensures.1)
    (first_refused g.S.Store c.args.session c.args.text.now c.args.name c.args.changes c.args.self.now (database_of c.self.inside.tables c.self.inside.reserved.txns)
    (record { table = c.requires.table; plan = c.requires.plan }) c.requires.first (looked g at)
    c.table.result.now c.in-Some.amounts c.self.invariant.keeps.kept.orderly (named g at) (many g at) (read g at) c.in_err-id.field-0.0
    (rw (c.as_slice-checks.ensures, c.as_slice.ensures) at c.in_err-id.ensures.only))

pub invariant_of-self-2 : goal.invariant_of-self-2
invariant_of-self-2 g c = record {
  keeps = (let at = (goal.at.invariant_of-self-2 g c).After-as_slice in
      let made = rw (c.as_slice-checks.ensures, c.as_slice.ensures) at c.in_ok-id.ensures.made in
      let of_session : IsSession c.args.session = c.grant_first.ensures.within in
      rw c.in_ok-id.ensures.granted
      (first_keeps g.S.Store c.args.session c.args.text.now c.args.name c.args.changes (database_of c.self.inside.tables c.self.inside.reserved.txns) c.self.inside.reserved.places c.grant_first.new.self.places
      (planned g at) c.self.invariant.keeps of_session c.table.result.now c.in-Some.amounts made.0 (named g at) (many g at) (read g at) made.1
      (rw (c.as_slice-checks.ensures, c.as_slice.ensures) at c.in_ok-id.ensures.free) made.2 c.in_ok-id.ensures.others));
  known = c.self.invariant.known;
  read = c.self.invariant.read;
}

pub returns : goal.returns
returns g c =
    let at = (goal.at.returns g c).After-as_slice in
    rw (c.in_ok-id.ensures.id, c.in_ok-id.ensures.granted)
    (first_granted g.S.Store c.args.session c.args.text.now c.args.name c.args.changes c.args.self.now (database_of c.self.inside.tables c.self.inside.reserved.txns)
    (record { table = c.requires.table; plan = c.requires.plan }) c.requires.first (looked g at)
    c.table.result.now c.in-Some.amounts c.self.invariant.keeps.kept.orderly (named g at) (many g at) (read g at)
    (rw (c.as_slice-checks.ensures, c.as_slice.ensures) at c.in_ok-id.ensures.free))
