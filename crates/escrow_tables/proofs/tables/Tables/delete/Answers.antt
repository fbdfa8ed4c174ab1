use Rattle.std.proofs.Common.{◌-◌, ◌≡◌, ◌∙◌, List, Bool, true, false, Ok, ap, refl, subst, subst₂, sym}
use Rattle.std.specs.Prelude.{IsSome, is_some}
use Rattle.std.proofs.lemmas.Bool.{false≢true}
use Rattle.std.proofs.lemmas.Result.{err_from_is_err_and}
use Rattle.sqlite.specs.Held.{Held, state}
use Rattle.sqlite.specs.State.{HasCleanDisk}
use Rattle.escrow_num.specs.declared.row.Row.{Row}
use Rattle.escrow_num.specs.declared.value.RowName.{RowName}
use Rattle.escrow_schema.specs.declared.counted_table.CountedTable.{CountedTable}
use Rattle.escrow_schema.specs.Stored.{recounted}
use Rattle.escrow_schema.specs.Rows.{row_named, without_row}
use Rattle.escrow_cells.specs.Calls.{Transacts}
use Rattle.escrow_rows.specs.Answers.{was_done}
use Rattle.escrow_rows.specs.Changes.{TurnsRows, is_there}
use Rattle.escrow_rows.specs.View.{rows_in}
use Rattle.escrow_tables.specs.Calls.{Writes}
use Rattle.escrow_tables.specs.Inside.{Keeps, catalog_of, stored_of}
use Rattle.escrow_tables.proofs.Placed.{IsPlaced, is_placed, item_at, kept_within}
use Rattle.escrow_rows.proofs.ListedTables.{listed_are}
use Rattle.escrow_tables.proofs.Reading.{name_of}
use Rattle.escrow_tables.proofs.RowWrites.{Turned, delete_turns, none_held, row_held, row_written}
use Rattle.escrow_tables.proofs.Writing.{seen}
use Rattle.escrow_tables.proofs.tables.Tables.delete.Given as given
use Rattle.escrow_tables.proofs.tables.Tables.delete.Goals as goal
use Rattle.escrow_tables.proofs.tables.Tables.delete.Goals.{After-count, After-delete}

placed : (g : given.Over) (c : After-delete g) → IsPlaced c.self.inside.catalog c.args.name.now.table c.args.place c.at-counted.result.now
placed g c =
    is_placed c.self.inside.catalog c.args.name.now.table c.args.place c.at-counted.result.now (rw (← c.self.view_is) at c.requires) (item_at c.self.inside.catalog c.args.place c.at-counted.result.now c.at-counted.ensures.at)

-- the rows that were last written
abbrev rows : (g : given.Over) (c : After-delete g) → List Row
rows g c = rows_in (stored_of c.self.inside.catalog) (state g.S.Store c.self.inside.last.value).now

turned : (g : given.Over) (c : After-delete g) → HasCleanDisk (state g.S.Store c.self.inside.store) → IsSome (row_named (rows g c) c.args.name.now)
    → Turned c.self.inside.catalog c.args.place (c.at-counted.result.now.rows - 1) (without_row c.args.name.now (rows g c))
turned g c clean stood =
    let tables = c.self.inside.catalog in
    let counted = c.at-counted.result.now in
    let held = c.self.invariant.held clean in
    delete_turns tables c.args.place counted c.args.name.now (counted.rows - 1) (placed g c) (listed_are tables c.self.invariant.listed) (rows g c) held.are_rows held.counts stood refl

-- the result of the store's call, in terms of the row's name
made : (g : given.Over) (c : After-delete g) (is_done : Bool) → was_done c.delete.result ≡ is_done
    → Transacts (state g.S.Store c.self.inside.store) (state g.S.Store c.delete.new.self) is_done (TurnsRows c.at-counted.result.now.stored (λ rs. is_some (row_named rs c.args.name.now)) (without_row c.args.name.now))
made g c is_done ok =
    let name = c.args.name.now in
    let counted = c.at-counted.result.now in
    subst₂ (λ b (n : RowName). Transacts (state g.S.Store c.self.inside.store) (state g.S.Store c.delete.new.self) b (TurnsRows counted.stored (λ rs. is_some (row_named rs n)) (without_row n))) ok
    (name_of c.self.inside.catalog name.table counted (placed g c).named name.key) c.delete.ensures.writes

-- the call writes, and the fields keep their contents
written : (g : given.Over) (c : After-delete g) (is_done : Bool) (fields : List CountedTable) (later : Held g.row.S.Denot) → was_done c.delete.result ≡ is_done
    → (is_done ≡ true → (fields ≡ recounted c.self.inside.catalog c.args.place (c.at-counted.result.now.rows - 1)) × (later ≡ c.delete.new.self)) → (is_done ≡ false → (fields ≡ c.self.inside.catalog) × (later ≡ c.self.inside.last.value))
    → Writes g.S.Store (seen g.S.Store c.self.inside.store c.self.inside.last.value c.self.inside.catalog) (seen g.S.Store c.delete.new.self later fields) is_done
    (catalog_of c.self.inside.catalog) (without_row c.args.name.now (rows g c))
    × Keeps (state g.S.Store c.delete.new.self) (state g.S.Store later) fields
written g c is_done fields later ok if_done if_not =
    row_written g.S.Store c.self.inside.store c.delete.new.self c.self.inside.last.value later c.self.inside.catalog fields c.args.name.now.table c.args.place c.at-counted.result.now (placed g c).named
    (λ rs. is_some (row_named rs c.args.name.now)) (without_row c.args.name.now) (c.at-counted.result.now.rows - 1) c.self.invariant (turned g c) is_done (made g c is_done ok) if_done if_not

pub at-counted-requires : goal.at-counted-requires
at-counted-requires g c = kept_within c.self.inside.catalog c.args.name.now.table c.args.place (rw (← c.self.view_is) at c.requires)

pub invariant_of-self : goal.invariant_of-self
invariant_of-self g c =
    (written g (goal.at.invariant_of-self g c).After-delete false c.self.inside.catalog c.self.inside.last.value (ap was_done c.in_err-delete.was) (λ e. absurd (false≢true e)) (λ _. (refl, refl))).1

pub returns-in_err-delete-clause-writes : goal.returns-in_err-delete-clause-writes
returns-in_err-delete-clause-writes g c =
    let failed = err_from_is_err_and c.from_residual.result c.from_residual.ensures.1 in
    rw (failed.1, ← c.self.view_is)
    ((written g (goal.at.returns-in_err-delete-clause-writes g c).After-delete false c.self.inside.catalog c.self.inside.last.value (ap was_done c.in_err-delete.was) (λ e. absurd (false≢true e)) (λ _. (refl, refl))).0)

-- the row does not exist
pub invariant_of-self-then-not-branch : goal.invariant_of-self-then-not-branch
invariant_of-self-then-not-branch g c =
    (written g (goal.at.invariant_of-self-then-not-branch g c).After-delete false c.self.inside.catalog c.self.inside.last.value (ap was_done c.in_ok-delete.was ∙ c.if-not-branch.true) (λ e. absurd (false≢true e)) (λ _. (refl, refl))).1

pub returns-then-not-branch-clause-writes : goal.returns-then-not-branch-clause-writes
returns-then-not-branch-clause-writes g c =
    rw (← c.self.view_is)
    ((written g (goal.at.returns-then-not-branch-clause-writes g c).After-delete false c.self.inside.catalog c.self.inside.last.value (ap was_done c.in_ok-delete.was ∙ c.if-not-branch.true) (λ e. absurd (false≢true e)) (λ _. (refl, refl))).0)

pub returns-then-not-branch-clause-told : goal.returns-then-not-branch-clause-told
returns-then-not-branch-clause-told g c =
    let at = (goal.at.returns-then-not-branch-clause-told g c).After-delete in
    let tables = c.self.inside.catalog in
    let name = c.args.name.now in
    let counted = c.at-counted.result.now in
    rw (← c.self.view_is) (λ clean.
    subst (λ (n : RowName). false ≡ is_some (row_named (rows g at) n)) (name_of tables name.table counted (placed g at).named name.key)
    (none_held (state g.S.Store c.self.inside.store) (state g.S.Store c.delete.new.self) (state g.S.Store c.self.inside.last.value) tables name.table counted (placed g at).named (is_there counted.stored name.key)
    c.self.invariant c.delete.ensures.writes.survives.clean clean (c.delete.ensures.none clean (c.in_ok-delete.was ∙ ap Ok c.if-not-branch.true))))

-- the row was removed
counted : (g : given.Over) (c : After-count g) → c.count.new.self ≡ recounted c.self.inside.catalog c.args.place (c.at-counted.result.now.rows - 1)
counted g c = c.count.ensures ∙ ap (recounted c.self.inside.catalog c.args.place) c.saturating_sub-rows.ensures

pub invariant_of-self-2 : goal.invariant_of-self-2
invariant_of-self-2 g c =
    let after = goal.at.invariant_of-self-2 g c in
    (written g after.After-delete true c.count.new.self c.of.result.value (ap was_done c.in_ok-delete.was ∙ c.if-not-branch.false) (λ _. (counted g after.After-count, c.of.ensures)) (λ e. absurd (false≢true (sym e)))).1

pub returns-clause-writes : goal.returns-clause-writes
returns-clause-writes g c =
    let after = goal.at.returns-clause-writes g c in
    rw (← c.self.view_is)
    ((written g after.After-delete true c.count.new.self c.of.result.value (ap was_done c.in_ok-delete.was ∙ c.if-not-branch.false) (λ _. (counted g after.After-count, c.of.ensures)) (λ e. absurd (false≢true (sym e)))).0)

pub returns-clause-told : goal.returns-clause-told
returns-clause-told g c =
    let after = goal.at.returns-clause-told g c in
    let at = after.After-delete in
    rw (← c.self.view_is) (λ clean.
    sym (row_held g.S.Store c.self.inside.store c.delete.new.self c.self.inside.last.value c.of.result.value c.self.inside.catalog c.count.new.self c.args.name.now.table c.args.place c.at-counted.result.now (placed g at).named
    (λ rs. is_some (row_named rs c.args.name.now)) (without_row c.args.name.now) (c.at-counted.result.now.rows - 1) c.self.invariant (turned g at) true (made g at true (ap was_done c.in_ok-delete.was ∙ c.if-not-branch.false))
    (λ _. (counted g after.After-count, c.of.ensures)) (λ e. absurd (false≢true (sym e))) refl clean))
