use Rattle.std.specs.Prelude.{◌≡◌, Some, None}
use Rattle.std.proofs.Common.{inr, refl, sym, subst, arith, ◌∙◌}
use Rattle.sqlite.specs.Held.{state}
use Rattle.sqlite.specs.State.{HasCleanDisk}
use Rattle.escrow_num.specs.declared.failure.Failure.TheVariants as failure
use Rattle.escrow_num.specs.declared.refusal.Refusal.TheVariants as refusal
use Rattle.escrow_num.specs.Refusal.{refusal_for}
use Rattle.escrow_bounds.specs.Altered.{IsOver}
use Rattle.escrow_bounds.specs.Held.{of_row}
use Rattle.escrow_schema.specs.Catalog.{table_named}
use Rattle.escrow_schema.specs.Definition.{IsTable}
use Rattle.escrow_schema.specs.declared.table.TableDef.{TableDef}
use Rattle.escrow_machine.specs.Altered.{added_violation}
use Rattle.escrow_machine.specs.State.{State}
use Rattle.escrow_machine.specs.declared.reply.Reply.TheVariants as reply
use Rattle.escrow_machine.proofs.Shapes.{is_table_found}
use Rattle.escrow_reserved.proofs.Counting.{on_row_counts}
use Rattle.escrow_core.specs.Altering.{Adds, adds}
use Rattle.escrow_core.specs.Inside.{database_of}
use Rattle.escrow_core.proofs.Altering.{MayAlter, add_refused, alter_fails, alter_holds, alter_serves, altered_place, alters_like, amounts_cover, can_judge, few_amounts, judges_old, may_add_check, read_holds, read_only_reads, rows_judged, some_is, with_named}
use Rattle.escrow_core.proofs.Serving.{HasLooked, early_since, fails, handed_on, look_failed, look_refused, refusal_serves, since_look, still_clean, unwritten_holds}
use Rattle.escrow_core.proofs.database.Database.add_check.Given as given
use Rattle.escrow_core.proofs.database.Database.add_check.Goals as goal
use Rattle.escrow_core.proofs.database.Database.add_check.Goals.{In_default, In_ok-violation, In_ok-place}

pub returns-in_err-place : goal.returns-in_err-place
returns-in_err-place g c =
    refusal_serves g.S.Store c.args.session (adds c.args.table c.args.text.now) c.args.self.now c.from_residual.result c.in_err-place.field-0.0 c.from_residual.ensures.1 c.in_err-place.ensures.refused

-- the table in the catalog, and the checks to add
record IsPlanned (g : given.Over) (c : In_ok-place g) : Type 0 where
  old : TableDef
  named : table_named c.self.inside.tables.catalog c.args.table ≡ Some old
  is_table : IsTable old
  adds : Adds old c.args.text.now c.in_ok-place.added

planned : (g : given.Over) (c : In_ok-place g) → IsPlanned g c
planned g c =
    let s = (database_of c.self.inside.tables c.self.inside.reserved.txns).state in
    let there = some_is (λ (old : TableDef). Adds old c.args.text.now c.in_ok-place.added) (table_named s.catalog c.args.table) (rw (← c.self.view_is) at c.in_ok-place.ensures.added) in
    record {
      old = there.0;
      named = there.1;
      is_table = is_table_found s c.self.invariant.keeps.kept.orderly c.args.table there.0 there.1;
      adds = there.2;
    }

pub prepare-requires-clause-placed : goal.prepare-requires-clause-placed
prepare-requires-clause-placed g c = c.self.invariant.keeps.placed

pub prepare-requires-clause-many : goal.prepare-requires-clause-many
prepare-requires-clause-many g c = λ row. omega (arith, on_row_counts row c.self.inside.reserved.txns.reservations, c.self.invariant.keeps.kept.orderly.few_on_rows row)

pub prepare-requires-clause-few : goal.prepare-requires-clause-few
prepare-requires-clause-few g c =
    let p = planned g (goal.at.prepare-requires-clause-few g c).In_ok-place in
    few_amounts c.self.inside.tables.catalog c.args.table p.old c.self.inside.reserved.places p.named p.is_table c.self.invariant.keeps.of_tables

pub prepare-requires-clause-covered : goal.prepare-requires-clause-covered
prepare-requires-clause-covered g c =
    let p = planned g (goal.at.prepare-requires-clause-covered g c).In_ok-place in
    rw c.as_slice.ensures
    (amounts_cover c.self.inside.tables.catalog c.args.table p.old c.args.text.now c.in_ok-place.added c.self.inside.reserved.places p.named p.is_table p.adds c.self.invariant.keeps.of_tables)

pub returns-in_err-addition : goal.returns-in_err-addition
returns-in_err-addition g c =
    let s = c.args.self.now.state in
    let asked = adds c.args.table c.args.text.now in
    refusal_serves g.S.Store c.args.session asked c.args.self.now c.from_residual-in_err-addition.result c.in_err-addition.field-0.0 c.from_residual-in_err-addition.ensures.1
    (rw c.in_err-addition.ensures.only (fails s c.args.session asked failure.Memory c.in_ok-place.ensures.early refl))

pub new-judge-requires : goal.new-judge-requires
new-judge-requires g c =
    let p = planned g (goal.at.new-judge-requires g c).In_ok-place in
    can_judge c.self.inside.tables.catalog c.args.table p.old c.args.text.now c.in_ok-place.added c.self.inside.reserved c.in_ok-addition.addition p.named p.is_table p.adds
    c.self.invariant.keeps.placed (rw c.as_slice.ensures at c.in_ok-addition.ensures.prepared)

pub first_violation-requires-clause-place : goal.first_violation-requires-clause-place
first_violation-requires-clause-place g c = rw (← c.self.view_is) at c.in_ok-place.ensures.place

pub first_violation-requires-clause-table : goal.first_violation-requires-clause-table
first_violation-requires-clause-table g c =
    let p = planned g (goal.at.first_violation-requires-clause-table g c).In_ok-place in
    rw c.new-judge.ensures (judges_old c.self.inside.tables.catalog c.args.table p.old c.args.text.now c.in_ok-place.added p.named p.is_table p.adds)

pub invariant_of-self : goal.invariant_of-self
invariant_of-self g c =
    read_holds g.S.Store c.self.inside.tables c.first_violation.new.self c.self.inside.reserved.txns c.self.inside.reserved.places c.self.inside.recent c.self.invariant c.first_violation.ensures.reads

pub returns-in_err-violation : goal.returns-in_err-violation
returns-in_err-violation g c =
    let d = database_of c.self.inside.tables c.self.inside.reserved.txns in
    let mid = database_of c.first_violation.new.self c.self.inside.reserved.txns in
    let asked = adds c.args.table c.args.text.now in
    let only_reads = read_only_reads g.S.Store c.self.inside.tables c.first_violation.new.self c.self.inside.reserved.txns c.first_violation.ensures.reads in
    let f = c.in_err-violation.field-0.0 in
    let early = rw (← c.self.view_is) at c.in_ok-place.ensures.early in
    rw (← c.self.view_is)
    (handed_on g.S.Store c.args.session asked d mid c.from_residual-in_err-violation.result (refusal_for f) c.from_residual-in_err-violation.ensures.1
    (look_failed g.S.Store c.args.session asked d mid f only_reads refl early refl))

-- the violation found is the machine's
judged : (g : given.Over) (c : In_ok-violation g) → HasCleanDisk (state g.S.Store c.first_violation.new.self.store)
    → c.in_ok-violation.field-0 ≡ added_violation (database_of c.self.inside.tables c.self.inside.reserved.txns).state c.args.table c.args.text.now
judged g c clean =
    let p = planned g (goal.at.In_ok-violation g c).In_ok-place in
    let s = (database_of c.self.inside.tables c.self.inside.reserved.txns).state in
    let was = still_clean _ _ _ c.first_violation.ensures.reads.survives clean in
    let can = can_judge c.self.inside.tables.catalog c.args.table p.old c.args.text.now c.in_ok-place.added c.self.inside.reserved c.in_ok-addition.addition p.named p.is_table p.adds
    c.self.invariant.keeps.placed (rw c.as_slice.ensures at c.in_ok-addition.ensures.prepared) in
    (rw c.new-judge.ensures at (c.in_ok-violation.ensures.told clean))
    ∙ rows_judged s c.args.table p.old c.args.text.now c.in_ok-place.added c.self.inside.reserved c.in_ok-addition.addition p.named p.is_table p.adds can refl
    (c.self.invariant.keeps.kept.safe_rows was) (c.self.invariant.keeps.amounts was)

pub invariant_of-self-in-Some : goal.invariant_of-self-in-Some
invariant_of-self-in-Some g c =
    read_holds g.S.Store c.self.inside.tables c.first_violation.new.self c.self.inside.reserved.txns c.self.inside.reserved.places c.self.inside.recent c.self.invariant c.first_violation.ensures.reads

pub returns-in-Some : goal.returns-in-Some
returns-in-Some g c =
    let d = database_of c.self.inside.tables c.self.inside.reserved.txns in
    let mid = database_of c.first_violation.new.self c.self.inside.reserved.txns in
    let table = c.args.table in
    let text = c.args.text.now in
    let at = (goal.at.returns-in-Some g c).In_ok-violation in
    let p = planned g (goal.at.In_ok-violation g at).In_ok-place in
    let only_reads = read_only_reads g.S.Store c.self.inside.tables c.first_violation.new.self c.self.inside.reserved.txns c.first_violation.ensures.reads in
    let early = rw (← c.self.view_is) at c.in_ok-place.ensures.early in
    let is = with_named d.state table text p.old c.in_ok-place.added p.named p.adds in
    rw (← c.self.view_is)
    (look_refused g.S.Store c.args.session (adds table text) d mid (refusal.Check c.in-Some.violation) only_reads refl early
    (λ clean. add_refused d.state c.args.session table text c.in_ok-place.added.table early is c.in-Some.violation (sym (judged g at clean) ∙ c.in-Some.is)))

-- the rows were read
looked : (g : given.Over) (c : In_default g)
    → HasLooked g.S.Store c.args.session (adds c.args.table c.args.text.now) (database_of c.self.inside.tables c.self.inside.reserved.txns) (database_of c.first_violation.new.self c.self.inside.reserved.txns)
looked g c = record {
  only_reads = read_only_reads g.S.Store c.self.inside.tables c.first_violation.new.self c.self.inside.reserved.txns c.first_violation.ensures.reads;
  asks = refl;
  early = rw (← c.self.view_is) at c.in_ok-place.ensures.early;
}

-- the write may be made
may : (g : given.Over) (c : In_default g)
    → (old : TableDef) × MayAlter g.S.Store c.args.session (adds c.args.table c.args.text.now) (database_of c.first_violation.new.self c.self.inside.reserved.txns) c.args.table old c.in_ok-place.added.table
may g c =
    let at = (goal.at.In_default g c).In_ok-violation in
    let p = planned g (goal.at.In_ok-violation g at).In_ok-place in
    let mid = database_of c.first_violation.new.self c.self.inside.reserved.txns in
    let asked = adds c.args.table c.args.text.now in
    let early = early_since g.S.Store c.args.session asked (database_of c.self.inside.tables c.self.inside.reserved.txns) mid (looked g c) in
    let named : table_named mid.state.catalog c.args.table ≡ Some p.old = rw c.first_violation.ensures.reads.catalog p.named in (
      p.old,
      may_add_check g.S.Store c.args.session c.args.table c.args.text.now mid p.old c.in_ok-place.added early named p.is_table p.adds
          (λ clean. subst (λ (s : State). added_violation s c.args.table c.args.text.now ≡ None) (sym (looked g c).only_reads.same) (sym (judged g at clean) ∙ c.in_default.is)),
    )

pub redefine-requires-clause-table : goal.redefine-requires-clause-table
redefine-requires-clause-table g c = let m = may g (goal.at.redefine-requires-clause-table g c).In_default in m.1.is_table

pub redefine-requires-clause-place : goal.redefine-requires-clause-place
redefine-requires-clause-place g c =
    let m = may g (goal.at.redefine-requires-clause-place g c).In_default in
    altered_place g.S.Store c.args.session (adds c.args.table c.args.text.now) c.first_violation.new.self c.first_violation.new.self c.self.inside.reserved.txns c.args.table m.0 c.in_ok-place.added.table m.1
    c.in_ok-place.place (rw c.first_violation.ensures.reads.catalog (rw (← c.self.view_is) at c.in_ok-place.ensures.place))

pub redefine-requires-clause-alike : goal.redefine-requires-clause-alike
redefine-requires-clause-alike g c =
    let m = may g (goal.at.redefine-requires-clause-alike g c).In_default in
    alters_like g.S.Store c.args.session (adds c.args.table c.args.text.now) c.first_violation.new.self c.first_violation.new.self c.self.inside.reserved.txns c.args.table m.0 c.in_ok-place.added.table m.1

pub invariant_of-self-in_err-redefine : goal.invariant_of-self-in_err-redefine
invariant_of-self-in_err-redefine g c =
    let txns = c.self.inside.reserved.txns in
    let places = c.self.inside.reserved.places in
    let recent = c.self.inside.recent in
    let read = read_holds g.S.Store c.self.inside.tables c.first_violation.new.self txns places recent c.self.invariant c.first_violation.ensures.reads in
    unwritten_holds g.S.Store c.first_violation.new.self c.redefine.new.self txns places _ _ recent recent read c.in_err-redefine.ensures (λ name. inr refl)

pub returns-in_err-redefine : goal.returns-in_err-redefine
returns-in_err-redefine g c =
    let d = database_of c.self.inside.tables c.self.inside.reserved.txns in
    let mid = database_of c.first_violation.new.self c.self.inside.reserved.txns in
    let asked = adds c.args.table c.args.text.now in
    let at = (goal.at.returns-in_err-redefine g c).In_default in
    let m = may g at in
    rw (← c.self.view_is)
    (since_look g.S.Store c.args.session asked d mid (looked g at) (database_of c.redefine.new.self c.self.inside.reserved.txns) _
    (alter_fails g.S.Store c.args.session asked c.first_violation.new.self c.redefine.new.self c.self.inside.reserved.txns c.args.table m.0 c.in_ok-place.added.table m.1
    c.from_residual-in_err-redefine.result c.in_err-redefine.field-0.0 c.from_residual-in_err-redefine.ensures.1 c.in_err-redefine.ensures))

pub adopt-requires-clause-placed : goal.adopt-requires-clause-placed
adopt-requires-clause-placed g c = c.self.invariant.keeps.placed

pub adopt-requires-clause-prepared : goal.adopt-requires-clause-prepared
adopt-requires-clause-prepared g c = (c.args.table, c.as_slice.result.now, c.in_ok-addition.ensures.prepared)

pub invariant_of-self-2 : goal.invariant_of-self-2
invariant_of-self-2 g c =
    let txns = c.self.inside.reserved.txns in
    let places = c.self.inside.reserved.places in
    let checks = c.in_ok-place.added.table.checks in
    let m = may g (goal.at.invariant_of-self-2 g c).In_default in
    let recent = c.self.inside.recent in
    let read = read_holds g.S.Store c.self.inside.tables c.first_violation.new.self txns places recent c.self.invariant c.first_violation.ensures.reads in
    let prepared = rw c.as_slice.ensures at c.in_ok-addition.ensures.prepared in
    rw c.adopt.ensures.txns
    (alter_holds g.S.Store c.args.session (adds c.args.table c.args.text.now) c.first_violation.new.self c.redefine.new.self txns c.args.table m.0 c.in_ok-place.added.table m.1
    (λ row. IsOver checks (of_row row txns.reservations)) places c.adopt.new.self.places recent read c.in_ok-redefine.ensures (c.adopt.ensures.places c.args.table checks prepared)
    (λ _ _ _ step. step.amounts) (λ _ _ _ step _. step.checks_are))

pub returns : goal.returns
returns g c =
    let d = database_of c.self.inside.tables c.self.inside.reserved.txns in
    let mid = database_of c.first_violation.new.self c.self.inside.reserved.txns in
    let asked = adds c.args.table c.args.text.now in
    let at = (goal.at.returns g c).In_default in
    let m = may g at in
    rw (← c.self.view_is, c.adopt.ensures.txns)
    (since_look g.S.Store c.args.session asked d mid (looked g at) (database_of c.redefine.new.self c.self.inside.reserved.txns) (reply.Altered c.args.table)
    (alter_serves g.S.Store c.args.session asked c.first_violation.new.self c.redefine.new.self c.self.inside.reserved.txns c.args.table m.0 c.in_ok-place.added.table m.1 c.in_ok-redefine.ensures))
