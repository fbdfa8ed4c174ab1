use Rattle.std.proofs.Common.{◌≡◌, ◌∙◌, List, Bool, true, false, Ok, ap, refl, subst, subst₂, sym}
use Rattle.std.specs.Prelude.{is_some}
use Rattle.std.specs.List.{AllByRecursion}
use Rattle.std.proofs.lemmas.Bool.{false≢true}
use Rattle.std.proofs.lemmas.Result.{err_from_is_err_and}
use Rattle.sqlite.specs.Held.{Held, state}
use Rattle.sqlite.specs.State.{HasCleanDisk}
use Rattle.escrow_num.specs.declared.row.Row.{Row}
use Rattle.escrow_num.specs.declared.value.RowName.{RowName}
use Rattle.escrow_cells.specs.Calls.{Transacts}
use Rattle.escrow_rows.specs.Answers.{was_done}
use Rattle.escrow_rows.specs.Changes.{TurnsRows, is_there}
use Rattle.escrow_schema.specs.Rows.{row_named, with_plain, HasTable}
use Rattle.escrow_rows.specs.View.{rows_in}
use Rattle.escrow_tables.specs.Calls.{Writes}
use Rattle.escrow_tables.specs.Inside.{Keeps, catalog_of, stored_of}
use Rattle.escrow_tables.proofs.Placed.{IsPlaced, is_placed, item_at, kept_within, recounted_itself}
use Rattle.escrow_tables.proofs.Reading.{name_of}
use Rattle.escrow_tables.proofs.RowWrites.{Turned, none_held, plain_turns, row_held, row_written}
use Rattle.escrow_tables.proofs.Writing.{seen}
use Rattle.escrow_tables.proofs.tables.Tables.set_plain.Given as given
use Rattle.escrow_tables.proofs.tables.Tables.set_plain.Goals as goal
use Rattle.escrow_tables.proofs.tables.Tables.set_plain.Goals.{After-set_plain}

placed : (g : given.Over) (c : After-set_plain g) → IsPlaced c.self.inside.catalog c.args.name.now.table c.args.place c.at.result.now
placed g c =
    is_placed c.self.inside.catalog c.args.name.now.table c.args.place c.at.result.now (rw (← c.self.view_is) at c.requires.place) (item_at c.self.inside.catalog c.args.place c.at.result.now c.at.ensures.at)

-- the rows that were last written
abbrev rows : (g : given.Over) (c : After-set_plain g) → List Row
rows g c = rows_in (stored_of c.self.inside.catalog) (state g.S.Store c.self.inside.last.value).now

turned : (g : given.Over) (c : After-set_plain g) → HasCleanDisk (state g.S.Store c.self.inside.store) → is_some (row_named (rows g c) c.args.name.now) ≡ true
    → Turned c.self.inside.catalog c.args.place c.at.result.now.rows (with_plain c.args.name.now c.args.values.now (rows g c))
turned g c clean _ =
    let tables = c.self.inside.catalog in
    let name = c.args.name.now in
    let values = c.args.values.now in
    let held = c.self.invariant.held clean in
    let fits : AllByRecursion (HasTable (catalog_of tables)) (with_plain name values (rows g c)) = (rw (← c.self.view_is) at c.requires.fits) clean in
    plain_turns tables c.args.place c.at.result.now name values (placed g c) (rows g c) held.are_rows held.counts fits

-- the result of the store's call, in terms of the row's name
made : (g : given.Over) (c : After-set_plain g) (is_done : Bool) → was_done c.set_plain.result ≡ is_done
    → Transacts (state g.S.Store c.self.inside.store) (state g.S.Store c.set_plain.new.self) is_done
    (TurnsRows c.at.result.now.stored (λ rs. is_some (row_named rs c.args.name.now)) (with_plain c.args.name.now c.args.values.now))
made g c is_done ok =
    let name = c.args.name.now in
    let values = c.args.values.now in
    let counted = c.at.result.now in
    subst₂ (λ b (n : RowName). Transacts (state g.S.Store c.self.inside.store) (state g.S.Store c.set_plain.new.self) b (TurnsRows counted.stored (λ rs. is_some (row_named rs n)) (with_plain n values))) ok
    (name_of c.self.inside.catalog name.table counted (placed g c).named name.key) c.set_plain.ensures.writes

-- the call writes, and the fields keep their contents
written : (g : given.Over) (c : After-set_plain g) (is_done : Bool) (later : Held g.row.S.Denot) → was_done c.set_plain.result ≡ is_done
    → (is_done ≡ true → later ≡ c.set_plain.new.self) → (is_done ≡ false → later ≡ c.self.inside.last.value)
    → Writes g.S.Store (seen g.S.Store c.self.inside.store c.self.inside.last.value c.self.inside.catalog) (seen g.S.Store c.set_plain.new.self later c.self.inside.catalog) is_done
    (catalog_of c.self.inside.catalog) (with_plain c.args.name.now c.args.values.now (rows g c))
    × Keeps (state g.S.Store c.set_plain.new.self) (state g.S.Store later) c.self.inside.catalog
written g c is_done later ok if_done if_not =
    let tables = c.self.inside.catalog in
    let at = placed g c in
    let stays = recounted_itself tables c.args.place c.at.result.now at.item in
    row_written g.S.Store c.self.inside.store c.set_plain.new.self c.self.inside.last.value later tables tables c.args.name.now.table c.args.place c.at.result.now at.named
    (λ rs. is_some (row_named rs c.args.name.now)) (with_plain c.args.name.now c.args.values.now) c.at.result.now.rows c.self.invariant (turned g c)
    is_done (made g c is_done ok) (λ e. (sym stays, if_done e)) (λ e. (refl, if_not e))

pub at-requires : goal.at-requires
at-requires g c = kept_within c.self.inside.catalog c.args.name.now.table c.args.place (rw (← c.self.view_is) at c.requires.place)

pub invariant_of-self : goal.invariant_of-self
invariant_of-self g c =
    (written g (goal.at.invariant_of-self g c).After-set_plain false c.self.inside.last.value (ap was_done c.in_err-set_plain.was) (λ e. absurd (false≢true e)) (λ _. refl)).1

pub returns-in_err-set_plain-clause-writes : goal.returns-in_err-set_plain-clause-writes
returns-in_err-set_plain-clause-writes g c =
    let failed = err_from_is_err_and c.from_residual.result c.from_residual.ensures.1 in
    rw (failed.1, ← c.self.view_is)
    ((written g (goal.at.returns-in_err-set_plain-clause-writes g c).After-set_plain false c.self.inside.last.value (ap was_done c.in_err-set_plain.was) (λ e. absurd (false≢true e)) (λ _. refl)).0)

-- the row does not exist
pub invariant_of-self-then-not-branch : goal.invariant_of-self-then-not-branch
invariant_of-self-then-not-branch g c =
    (written g (goal.at.invariant_of-self-then-not-branch g c).After-set_plain false c.self.inside.last.value (ap was_done c.in_ok-set_plain.was ∙ c.if-not-branch.true) (λ e. absurd (false≢true e)) (λ _. refl)).1

pub returns-then-not-branch-clause-writes : goal.returns-then-not-branch-clause-writes
returns-then-not-branch-clause-writes g c =
    rw (← c.self.view_is)
    ((written g (goal.at.returns-then-not-branch-clause-writes g c).After-set_plain false c.self.inside.last.value (ap was_done c.in_ok-set_plain.was ∙ c.if-not-branch.true) (λ e. absurd (false≢true e)) (λ _. refl)).0)

pub returns-then-not-branch-clause-told : goal.returns-then-not-branch-clause-told
returns-then-not-branch-clause-told g c =
    let at = (goal.at.returns-then-not-branch-clause-told g c).After-set_plain in
    let tables = c.self.inside.catalog in
    let name = c.args.name.now in
    let counted = c.at.result.now in
    rw (← c.self.view_is) (λ clean.
    subst (λ (n : RowName). false ≡ is_some (row_named (rows g at) n)) (name_of tables name.table counted (placed g at).named name.key)
    (none_held (state g.S.Store c.self.inside.store) (state g.S.Store c.set_plain.new.self) (state g.S.Store c.self.inside.last.value) tables name.table counted (placed g at).named (is_there counted.stored name.key)
    c.self.invariant c.set_plain.ensures.writes.survives.clean clean (c.set_plain.ensures.none clean (c.in_ok-set_plain.was ∙ ap Ok c.if-not-branch.true))))

-- its values are replaced
pub invariant_of-self-2 : goal.invariant_of-self-2
invariant_of-self-2 g c =
    (written g (goal.at.invariant_of-self-2 g c).After-set_plain true c.of.result.value (ap was_done c.in_ok-set_plain.was ∙ c.if-not-branch.false) (λ _. c.of.ensures) (λ e. absurd (false≢true (sym e)))).1

pub returns-clause-writes : goal.returns-clause-writes
returns-clause-writes g c =
    rw (← c.self.view_is)
    ((written g (goal.at.returns-clause-writes g c).After-set_plain true c.of.result.value (ap was_done c.in_ok-set_plain.was ∙ c.if-not-branch.false) (λ _. c.of.ensures) (λ e. absurd (false≢true (sym e)))).0)

pub returns-clause-told : goal.returns-clause-told
returns-clause-told g c =
    let at = (goal.at.returns-clause-told g c).After-set_plain in
    let stays = recounted_itself c.self.inside.catalog c.args.place c.at.result.now (placed g at).item in
    rw (← c.self.view_is) (λ clean.
    sym (row_held g.S.Store c.self.inside.store c.set_plain.new.self c.self.inside.last.value c.of.result.value c.self.inside.catalog c.self.inside.catalog c.args.name.now.table c.args.place c.at.result.now (placed g at).named
    (λ rs. is_some (row_named rs c.args.name.now)) (with_plain c.args.name.now c.args.values.now) c.at.result.now.rows c.self.invariant (turned g at) true (made g at true (ap was_done c.in_ok-set_plain.was ∙ c.if-not-branch.false))
    (λ _. (sym stays, c.of.ensures)) (λ e. absurd (false≢true (sym e))) refl clean))
