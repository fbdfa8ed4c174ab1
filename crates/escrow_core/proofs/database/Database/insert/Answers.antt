use Rattle.std.specs.Prelude.{length}
use Rattle.std.proofs.Common.{◌≡◌, ◌∙◌, Some, inr, refl, sym, subst}
use Rattle.sqlite.specs.Held.{state}
use Rattle.sqlite.specs.State.{HasCleanDisk}
use Rattle.escrow_num.specs.declared.refusal.Refusal.TheVariants as refusal
use Rattle.escrow_statement.specs.declared.statement.Statement.TheVariants as statement
use Rattle.escrow_schema.specs.Catalog.{place_named, table_named}
use Rattle.escrow_machine.specs.declared.reply.Reply.TheVariants as reply
use Rattle.escrow_schema.specs.Column.{reservables}
use Rattle.escrow_schema.specs.Fit.{IsRowOf}
use Rattle.escrow_schema.specs.Rows.{row_named}
use Rattle.escrow_machine.specs.State.{State}
use Rattle.escrow_machine.proofs.Safe.{some_weaker}
use Rattle.escrow_tables.specs.Calls.{with_new}
use Rattle.escrow_core.specs.Inside.{database_of}
use Rattle.escrow_core.specs.Database.{Database}
use Rattle.escrow_core.specs.Serving.{unless_stands}
use Rattle.escrow_core.proofs.Inserting.{IsAsked, is_made, made_row, may_insert, new_found, put_none, put_reply, room_left, row_exists, row_refused, store_refused}
use Rattle.escrow_core.proofs.Serving.{Any, MayWrite, failure_serves, late_refused, look_refused, refusal_serves, refusal_told, still_clean, told_or_failed, unwritten_holds, write_holds, write_serves}
use Rattle.escrow_core.proofs.database.Database.insert.Given as given
use Rattle.escrow_core.proofs.database.Database.insert.Goals as goal
use Rattle.escrow_core.proofs.database.Database.insert.Goals.{After-count, After-insert}

pub returns-in_err-place : goal.returns-in_err-place
returns-in_err-place g c =
    refusal_serves g.S.Store c.args.session (statement.Insert c.args.text.now) c.args.self.now c.from_residual.result c.in_err-place.field-0.0 c.from_residual.ensures.1 c.in_err-place.ensures.refused

-- a row with this name is kept, so it exists
pub returns-then-is_remembered : goal.returns-then-is_remembered
returns-then-is_remembered g c =
    let d = c.args.self.now in
    let early = c.in_ok-place.ensures.early in
    late_refused g.S.Store c.args.session (statement.Insert c.args.text.now) d refusal.RowExists refl early
    (λ u. row_exists d.state c.args.session c.args.text.now c.in_ok-place.row c.in_ok-place.ensures.row early (c.is_remembered.ensures u c.if-is_remembered.true))

-- the place of the row's table in the catalog
placed : (g : given.Over) (c : After-count g) → place_named c.self.inside.tables.catalog c.args.text.now.table ≡ Some c.in_ok-place.place
placed g c = rw (← c.self.view_is) at c.in_ok-place.ensures.place

-- the new row
asked : (g : given.Over) (c : After-count g) → IsAsked g.S.Store (database_of c.self.inside.tables c.self.inside.reserved.txns) c.args.session c.args.text.now c.in_ok-place.row c.table.result.now c.count.result
asked g c = record {
  made = rw (← c.self.view_is) at c.in_ok-place.ensures.row;
  early = rw (← c.self.view_is) at c.in_ok-place.ensures.early;
  named = c.table.ensures.named c.args.text.now.table (placed g c);
  counted = λ u. c.count.ensures u c.args.text.now.table (placed g c);
}

asked_now : (g : given.Over) (c : After-count g) → IsAsked g.S.Store c.args.self.now c.args.session c.args.text.now c.in_ok-place.row c.table.result.now c.count.result
asked_now g c = subst (λ (d : Database _). IsAsked g.S.Store d c.args.session c.args.text.now c.in_ok-place.row c.table.result.now c.count.result) c.self.view_is (asked g c)

pub row_refusal-requires-clause-fits : goal.row_refusal-requires-clause-fits
row_refusal-requires-clause-fits g c =
    let is = asked g (goal.at.row_refusal-requires-clause-fits g c).After-count in
    made_row (database_of c.self.inside.tables c.self.inside.reserved.txns).state c.args.text.now c.in_ok-place.row c.table.result.now is.named is.made

-- the table's room or a check refuses the row, unless a row has its name
pub row_exists_or-requires : goal.row_exists_or-requires
row_exists_or-requires g c =
    let s : State = c.args.self.now.state in
    subst (λ (n : _). place_named s.catalog n ≡ Some c.in_ok-place.place) (sym (is_made s c.args.text.now c.in_ok-place.row c.in_ok-place.ensures.row).table_name) c.in_ok-place.ensures.place

pub returns-in-Some : goal.returns-in-Some
returns-in-Some g c =
    let d = c.args.self.now in
    let after = c.row_exists_or.new.self in
    let asks = statement.Insert c.args.text.now in
    let row = c.in_ok-place.row in
    let early = c.in_ok-place.ensures.early in
    let at = (goal.at.returns-in-Some g c).After-count in
    look_refused g.S.Store c.args.session asks d after c.row_exists_or.result c.row_exists_or.ensures.only_reads refl early
    (told_or_failed d.state c.args.session asks (HasCleanDisk (state g.S.Store after.store)) c.row_exists_or.result (unless_stands (row_named d.state.rows row.name) c.in-Some.refusal) early (λ _. refl)
    c.row_exists_or.ensures.told
    (λ u. row_refused g.S.Store d c.args.session c.args.text.now row c.table.result.now c.count.result (asked_now g at) c.in-Some.refusal c.in-Some.ensures (still_clean _ _ _ c.row_exists_or.ensures.only_reads.survives u)))

pub insert-requires-clause-place : goal.insert-requires-clause-place
insert-requires-clause-place g c =
    let s : State = (database_of c.self.inside.tables c.self.inside.reserved.txns).state in
    let at = (goal.at.insert-requires-clause-place g c).After-count in
    subst (λ (n : _). place_named s.catalog n ≡ Some c.in_ok-place.place) (sym (is_made s c.args.text.now c.in_ok-place.row (asked g at).made).table_name) (placed g at)

pub insert-requires-clause-fits : goal.insert-requires-clause-fits
insert-requires-clause-fits g c =
    let s : State = (database_of c.self.inside.tables c.self.inside.reserved.txns).state in
    (is_made s c.args.text.now c.in_ok-place.row (asked g (goal.at.insert-requires-clause-fits g c).After-count).made).has_table

pub insert-requires-clause-room : goal.insert-requires-clause-room
insert-requires-clause-room g c =
    let d = database_of c.self.inside.tables c.self.inside.reserved.txns in
    room_left g.S.Store d c.args.session c.args.text.now c.in_ok-place.row c.table.result.now c.count.result (asked g (goal.at.insert-requires-clause-room g c).After-count) (sym c.in_default.is ∙ c.row_refusal.ensures)

-- neither refuses the row
may : (g : given.Over) (c : After-insert g)
    → MayWrite g.S.Store c.args.session (statement.Insert c.args.text.now) (database_of c.self.inside.tables c.self.inside.reserved.txns) (put_reply (row_named c.self.inside.tables.rows c.in_ok-place.row.name))
    (record (database_of c.self.inside.tables c.self.inside.reserved.txns).state { rows = with_new c.in_ok-place.row c.self.inside.tables.rows }) Any
may g c =
    may_insert g.S.Store (database_of c.self.inside.tables c.self.inside.reserved.txns) c.args.session c.args.text.now c.in_ok-place.row c.table.result.now c.count.result (asked g (goal.at.After-insert g c).After-count)
    (sym c.in_default.is ∙ c.row_refusal.ensures)

pub returns-in_err-insert : goal.returns-in_err-insert
returns-in_err-insert g c =
    rw (← c.self.view_is)
    (failure_serves g.S.Store c.args.session (statement.Insert c.args.text.now) c.self.inside.tables c.insert.new.self c.self.inside.reserved.txns _ _ (may g (goal.at.returns-in_err-insert g c).After-insert)
    c.from_residual-in_err-insert.result c.in_err-insert.field-0.0 c.from_residual-in_err-insert.ensures.1 c.in_err-insert.ensures.writes)

pub invariant_of-self : goal.invariant_of-self
invariant_of-self g c =
    unwritten_holds g.S.Store c.self.inside.tables c.insert.new.self c.self.inside.reserved.txns c.self.inside.reserved.places _ _ c.self.inside.recent c.self.inside.recent c.self.invariant c.in_err-insert.ensures.writes (λ name. inr refl)

-- the row was inserted, so no row had its name
pub invariant_of-self-then-branch : goal.invariant_of-self-then-branch
invariant_of-self-then-branch g c =
    write_holds g.S.Store c.args.session (statement.Insert c.args.text.now) c.self.inside.tables c.insert.new.self c.self.inside.reserved.txns _ _ (may g (goal.at.invariant_of-self-then-branch g c).After-insert)
    c.self.inside.reserved.places c.self.inside.recent c.self.inside.recent c.self.invariant (rw c.if-branch.true at c.in_ok-insert.ensures.writes) (λ name. inr (refl, tt))

pub remember_new-requires-clause-many : goal.remember_new-requires-clause-many
remember_new-requires-clause-many g c =
    let s : State = (database_of c.self.inside.tables c.self.inside.reserved.txns).state in
    let writes = rw c.if-branch.true at c.in_ok-insert.ensures.writes in
    rw (writes.done_catalog refl)
    (some_weaker (λ table. IsRowOf table c.in_ok-place.row) (λ table. length c.in_ok-place.row.amounts ≡ length (reservables table.columns)) (table_named s.catalog c.in_ok-place.row.name.table)
    (λ table is. is.amounts) (is_made s c.args.text.now c.in_ok-place.row (asked g (goal.at.remember_new-requires-clause-many g c).After-count).made).has_table)

pub remember_new-requires-clause-inserted : goal.remember_new-requires-clause-inserted
remember_new-requires-clause-inserted g c = λ u.
    let writes = rw c.if-branch.true at c.in_ok-insert.ensures.writes in
    rw (writes.done_rows refl u) (new_found c.self.inside.tables.rows c.in_ok-place.row (c.in_ok-insert.ensures.told u c.if-branch.true))

pub returns-then-branch : goal.returns-then-branch
returns-then-branch g c =
    rw (← c.self.view_is, c.remember_new.ensures)
    (write_serves g.S.Store c.args.session (statement.Insert c.args.text.now) c.self.inside.tables c.insert.new.self c.self.inside.reserved.txns _ _ (may g (goal.at.returns-then-branch g c).After-insert) reply.Inserted refl
    (λ u. put_none (row_named c.self.inside.tables.rows c.in_ok-place.row.name) (c.in_ok-insert.ensures.told u c.if-branch.true)) (rw c.if-branch.true at c.in_ok-insert.ensures.writes))

-- it was not inserted: a row has its name, or the store refused it
pub invariant_of-self-else-branch : goal.invariant_of-self-else-branch
invariant_of-self-else-branch g c =
    unwritten_holds g.S.Store c.self.inside.tables c.insert.new.self c.self.inside.reserved.txns c.self.inside.reserved.places _ _ c.self.inside.recent c.self.inside.recent c.self.invariant (rw c.if-branch.false at c.in_ok-insert.ensures.writes) (λ name. inr refl)

pub row_exists_or-requires-2 : goal.row_exists_or-requires-2
row_exists_or-requires-2 g c =
    let s : State = (database_of c.self.inside.tables c.self.inside.reserved.txns).state in
    let at = (goal.at.row_exists_or-requires-2 g c).After-count in
    let writes = rw c.if-branch.false at c.in_ok-insert.ensures.writes in
    subst (λ catalog. place_named catalog c.in_ok-place.row.name.table ≡ Some c.in_ok-place.place) (sym (writes.kept_catalog refl))
    (subst (λ (n : _). place_named s.catalog n ≡ Some c.in_ok-place.place) (sym (is_made s c.args.text.now c.in_ok-place.row (asked g at).made).table_name) (placed g at))

pub returns : goal.returns
returns g c =
    let d = database_of c.self.inside.tables c.self.inside.reserved.txns in
    let after = c.row_exists_or-2.new.self in
    let asks = statement.Insert c.args.text.now in
    let row = c.in_ok-place.row in
    let ats = goal.at.returns g c in
    let writes = rw c.if-branch.false at c.in_ok-insert.ensures.writes in
    let is = asked g ats.After-count in
    rw (← c.self.view_is)
    (refusal_told g.S.Store c.args.session asks c.self.inside.tables c.insert.new.self c.self.inside.reserved.txns _ _ (may g ats.After-insert) after c.row_exists_or-2.result writes c.row_exists_or-2.ensures.only_reads
    (told_or_failed d.state c.args.session asks (HasCleanDisk (state g.S.Store after.store)) c.row_exists_or-2.result (unless_stands (row_named d.state.rows row.name) refusal.Store) is.early (λ _. refl)
    (rw (writes.kept_rows refl) at c.row_exists_or-2.ensures.told)
    (λ _. store_refused g.S.Store d c.args.session c.args.text.now row c.table.result.now c.count.result is)))
