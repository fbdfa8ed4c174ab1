use Rattle.std.proofs.Common.{◌≡◌, subst, refl, true, ap, sym, ◌<◌, false, min, ◌+◌, arith, length, List, ℕ, Bool, ◌∙◌}
use Rattle.std.specs.Prelude.{is_none}
use Rattle.std.proofs.lemmas.Bool.{false≢true}
use Rattle.std.proofs.lemmas.Result.{err_from_is_err_and}
use Rattle.sqlite.specs.Held.{Held, state}
use Rattle.sqlite.specs.State.{HasCleanDisk}
use Rattle.escrow_num.specs.declared.row.Row.{Row}
use Rattle.escrow_schema.specs.declared.counted_table.CountedTable.{CountedTable}
use Rattle.escrow_schema.specs.Stored.{recounted}
use Rattle.escrow_schema.specs.Rows.{row_named, rows_of, HasTable}
use Rattle.escrow_cells.specs.Calls.{Transacts}
use Rattle.escrow_rows.specs.Answers.{was_done}
use Rattle.escrow_rows.specs.Changes.{Inserts, TurnsRows}
use Rattle.escrow_rows.specs.View.{rows_in}
use Rattle.escrow_schema.specs.declared.table.TheConstants.TableDef.{MAX_ROWS}
use Rattle.escrow_tables.specs.Calls.{Writes, with_new}
use Rattle.escrow_tables.specs.Inside.{Keeps, catalog_of, stored_of}
use Rattle.escrow_tables.proofs.Named.{row_fits}
use Rattle.escrow_tables.proofs.NewRows.{none_from, puts_new}
use Rattle.escrow_tables.proofs.Placed.{IsPlaced, is_placed, item_at, kept_within}
use Rattle.escrow_rows.proofs.ListedTables.{listed_are}
use Rattle.escrow_tables.proofs.RowWrites.{Turned, insert_turns, row_held, row_written}
use Rattle.escrow_tables.proofs.Writing.{seen}
use Rattle.escrow_tables.proofs.tables.Tables.insert.Given as given
use Rattle.escrow_tables.proofs.tables.Tables.insert.Goals as goal
use Rattle.escrow_tables.proofs.tables.Tables.insert.Goals.{After-count, After-insert}

-- the greatest value of the type that counts rows
abbrev most : ℕ
most = 18446744073709551615

placed : (g : given.Over) (c : After-insert g) → IsPlaced c.self.inside.catalog c.args.row.now.name.table c.args.place c.at-counted.result.now
placed g c =
    is_placed c.self.inside.catalog c.args.row.now.name.table c.args.place c.at-counted.result.now (rw (← c.self.view_is) at c.requires.place) (item_at c.self.inside.catalog c.args.place c.at-counted.result.now c.at-counted.ensures.at)

-- the rows that were last written
abbrev rows : (g : given.Over) (c : After-insert g) → List Row
rows g c = rows_in (stored_of c.self.inside.catalog) (state g.S.Store c.self.inside.last.value).now

turned : (g : given.Over) (c : After-insert g) → HasCleanDisk (state g.S.Store c.self.inside.store) → is_none (row_named (rows g c) c.args.row.now.name) ≡ true
    → Turned c.self.inside.catalog c.args.place (min (c.at-counted.result.now.rows + 1) most) (with_new c.args.row.now (rows g c))
turned g c clean none =
    let tables = c.self.inside.catalog in
    let row = c.args.row.now in
    let counted = c.at-counted.result.now in
    let held = c.self.invariant.held clean in
    let fits : HasTable (catalog_of tables) row = (rw (← c.self.view_is) at c.requires.fits) in
    let room : length (rows_of (rows g c) row.name.table) < MAX_ROWS = (rw (← c.self.view_is) at c.requires.room) clean in
    insert_turns tables c.args.place counted row (min (counted.rows + 1) most) most (placed g c) (listed_are tables c.self.invariant.listed) (rows g c) held.are_rows held.counts fits
    (none_from (row_named (rows g c) row.name) none) room (omega arith) refl

-- the result of the store's call
made : (g : given.Over) (c : After-insert g) (is_done : Bool) → was_done c.insert.result ≡ is_done
    → Transacts (state g.S.Store c.self.inside.store) (state g.S.Store c.insert.new.self) is_done (TurnsRows c.at-counted.result.now.stored (λ rs. is_none (row_named rs c.args.row.now.name)) (with_new c.args.row.now))
made g c is_done ok =
    puts_new g.S.Store c.self.inside.store c.insert.new.self is_done c.at-counted.result.now.stored c.args.row.now
    (subst (λ b. Transacts (state g.S.Store c.self.inside.store) (state g.S.Store c.insert.new.self) b (Inserts c.at-counted.result.now.stored c.args.row.now)) ok c.insert.ensures)

-- the call writes, and the fields keep their contents
written : (g : given.Over) (c : After-insert g) (is_done : Bool) (fields : List CountedTable) (later : Held g.row.S.Denot) → was_done c.insert.result ≡ is_done
    → (is_done ≡ true → (fields ≡ recounted c.self.inside.catalog c.args.place (min (c.at-counted.result.now.rows + 1) most)) × (later ≡ c.insert.new.self)) → (is_done ≡ false → (fields ≡ c.self.inside.catalog) × (later ≡ c.self.inside.last.value))
    → Writes g.S.Store (seen g.S.Store c.self.inside.store c.self.inside.last.value c.self.inside.catalog) (seen g.S.Store c.insert.new.self later fields) is_done
    (catalog_of c.self.inside.catalog) (with_new c.args.row.now (rows g c))
    × Keeps (state g.S.Store c.insert.new.self) (state g.S.Store later) fields
written g c is_done fields later ok if_done if_not =
    row_written g.S.Store c.self.inside.store c.insert.new.self c.self.inside.last.value later c.self.inside.catalog fields c.args.row.now.name.table c.args.place c.at-counted.result.now
    (placed g c).named (λ rs. is_none (row_named rs c.args.row.now.name)) (with_new c.args.row.now) (min (c.at-counted.result.now.rows + 1) most) c.self.invariant (turned g c)
    is_done (made g c is_done ok) if_done if_not

pub at-counted-requires : goal.at-counted-requires
at-counted-requires g c = kept_within c.self.inside.catalog c.args.row.now.name.table c.args.place (rw (← c.self.view_is) at c.requires.place)

pub insert-requires : goal.insert-requires
insert-requires g c = row_fits c.self.inside.catalog c.args.row.now c.at-counted.result.now (is_placed c.self.inside.catalog c.args.row.now.name.table c.args.place c.at-counted.result.now (rw (← c.self.view_is) at c.requires.place)
    (item_at c.self.inside.catalog c.args.place c.at-counted.result.now c.at-counted.ensures.at)).named (rw (← c.self.view_is) at c.requires.fits)

pub invariant_of-self : goal.invariant_of-self
invariant_of-self g c =
    (written g (goal.at.invariant_of-self g c).After-insert false c.self.inside.catalog c.self.inside.last.value (ap was_done c.in_err-insert.was) (λ e. absurd (false≢true e)) (λ _. (refl, refl))).1

pub returns-in_err-insert-clause-writes : goal.returns-in_err-insert-clause-writes
returns-in_err-insert-clause-writes g c =
    let failed = err_from_is_err_and c.from_residual.result c.from_residual.ensures.1 in
    rw (failed.1, ← c.self.view_is)
    ((written g (goal.at.returns-in_err-insert-clause-writes g c).After-insert false c.self.inside.catalog c.self.inside.last.value (ap was_done c.in_err-insert.was) (λ e. absurd (false≢true e)) (λ _. (refl, refl))).0)

-- the store refused the row
pub invariant_of-self-then-not-branch : goal.invariant_of-self-then-not-branch
invariant_of-self-then-not-branch g c =
    (written g (goal.at.invariant_of-self-then-not-branch g c).After-insert false c.self.inside.catalog c.self.inside.last.value (ap was_done c.in_ok-insert.was ∙ c.if-not-branch.true) (λ e. absurd (false≢true e)) (λ _. (refl, refl))).1

pub returns-then-not-branch-clause-writes : goal.returns-then-not-branch-clause-writes
returns-then-not-branch-clause-writes g c =
    rw (← c.self.view_is)
    ((written g (goal.at.returns-then-not-branch-clause-writes g c).After-insert false c.self.inside.catalog c.self.inside.last.value (ap was_done c.in_ok-insert.was ∙ c.if-not-branch.true) (λ e. absurd (false≢true e)) (λ _. (refl, refl))).0)

-- the row was inserted
counted : (g : given.Over) (c : After-count g) → c.count.new.self ≡ recounted c.self.inside.catalog c.args.place (min (c.at-counted.result.now.rows + 1) most)
counted g c = c.count.ensures ∙ ap (recounted c.self.inside.catalog c.args.place) c.saturating_add-rows.ensures

pub invariant_of-self-2 : goal.invariant_of-self-2
invariant_of-self-2 g c =
    let after = goal.at.invariant_of-self-2 g c in
    (written g after.After-insert true c.count.new.self c.of.result.value (ap was_done c.in_ok-insert.was ∙ c.if-not-branch.false) (λ _. (counted g after.After-count, c.of.ensures)) (λ e. absurd (false≢true (sym e)))).1

pub returns-clause-writes : goal.returns-clause-writes
returns-clause-writes g c =
    let after = goal.at.returns-clause-writes g c in
    rw (← c.self.view_is)
    ((written g after.After-insert true c.count.new.self c.of.result.value (ap was_done c.in_ok-insert.was ∙ c.if-not-branch.false) (λ _. (counted g after.After-count, c.of.ensures)) (λ e. absurd (false≢true (sym e)))).0)

pub returns-clause-told : goal.returns-clause-told
returns-clause-told g c =
    let after = goal.at.returns-clause-told g c in
    let at = after.After-insert in
    rw (← c.self.view_is) (λ clean put.
    none_from (row_named (rows g at) c.args.row.now.name)
    (row_held g.S.Store c.self.inside.store c.insert.new.self c.self.inside.last.value c.of.result.value c.self.inside.catalog c.count.new.self c.args.row.now.name.table c.args.place c.at-counted.result.now (placed g at).named
    (λ rs. is_none (row_named rs c.args.row.now.name)) (with_new c.args.row.now) (min (c.at-counted.result.now.rows + 1) most) c.self.invariant (turned g at) true (made g at true (ap was_done c.in_ok-insert.was ∙ c.if-not-branch.false))
    (λ _. (counted g after.After-count, c.of.ensures)) (λ e. absurd (false≢true (sym e))) refl clean))
