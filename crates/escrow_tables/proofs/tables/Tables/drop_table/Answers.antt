use Rattle.std.proofs.Common.{◌≡◌, ℕ, Bool, List, Some, true, false, is_ok, refl, sym, ap, subst, ◌∙◌}
use Rattle.std.proofs.lemmas.Bool.{false≢true}
use Rattle.std.proofs.lemmas.Result.{err_from_is_err_and}
use Rattle.sqlite.specs.Held.{Held, state}
use Rattle.escrow_schema.specs.Catalog.{place_named, without_table}
use Rattle.escrow_cells.specs.Calls.{Transacts}
use Rattle.escrow_rows.specs.Changes.{Drops}
use Rattle.escrow_schema.specs.Stored.{without_counted}
use Rattle.escrow_schema.specs.Rows.{without_rows_of}
use Rattle.escrow_rows.specs.View.{rows_in}
use Rattle.escrow_schema.specs.declared.counted_table.CountedTable.{CountedTable}
use Rattle.escrow_tables.specs.Calls.{Writes}
use Rattle.escrow_tables.specs.Inside.{Keeps, catalog_of, stored_of}
use Rattle.escrow_tables.proofs.Dropped.{drop_keeps, drop_writes, taken}
use Rattle.escrow_tables.proofs.Placed.{is_placed, item_at, kept_within}
use Rattle.escrow_tables.proofs.Writing.{seen}
use Rattle.escrow_tables.proofs.tables.Tables.drop_table.Given as given
use Rattle.escrow_tables.proofs.tables.Tables.drop_table.Goals as goal
use Rattle.escrow_tables.proofs.tables.Tables.drop_table.Goals.{After-drop_table, After-remove}

-- the call writes, and the fields keep their contents
written : (g : given.Over) (c : After-drop_table g) (name : List ℕ) → place_named (catalog_of c.self.inside.catalog) name ≡ Some c.args.place → (is_done : Bool) (fields : List CountedTable) (later : Held g.row.S.Denot) → is_ok c.drop_table.result ≡ is_done
    → (is_done ≡ true → (fields ≡ without_counted name c.self.inside.catalog) × (later ≡ c.drop_table.new.self)) → (is_done ≡ false → (fields ≡ c.self.inside.catalog) × (later ≡ c.self.inside.last.value))
    → Writes g.S.Store (seen g.S.Store c.self.inside.store c.self.inside.last.value c.self.inside.catalog) (seen g.S.Store c.drop_table.new.self later fields) is_done
    (without_table name (catalog_of c.self.inside.catalog)) (without_rows_of name (rows_in (stored_of c.self.inside.catalog) (state g.S.Store c.self.inside.last.value).now))
    × Keeps (state g.S.Store c.drop_table.new.self) (state g.S.Store later) fields
written g c name at is_done fields later ok if_done if_not =
    let tables = c.self.inside.catalog in
    let counted = c.at-counted.result.now in
    let old = c.self.inside.store in
    let new = c.drop_table.new.self in
    let named = (is_placed tables name c.args.place counted at (item_at c.self.inside.catalog c.args.place c.at-counted.result.now c.at-counted.ensures.at)).named in
    let it = subst (λ b. Transacts (state g.S.Store old) (state g.S.Store new) b (Drops counted.stored)) ok c.drop_table.ensures in (
      drop_writes tables name counted named c.self.invariant.listed g.S.Store old new c.self.inside.last.value later is_done it fields c.self.invariant if_done if_not,
      drop_keeps tables name counted named c.self.invariant.listed g.S.Store old new c.self.inside.last.value later is_done it fields c.self.invariant if_done if_not,
    )

-- the table removed from the catalog is the one at the place
left : (g : given.Over) (c : After-remove g) (name : List ℕ) → place_named (catalog_of c.self.inside.catalog) name ≡ Some c.args.place → c.remove.new.self ≡ without_counted name c.self.inside.catalog
left g c name at =
    let tables = c.self.inside.catalog in
    let counted = c.at-counted.result.now in
    let named = (is_placed tables name c.args.place counted at (item_at tables c.args.place counted c.at-counted.ensures.at)).named in
    taken tables c.remove.new.self counted.stored.table counted.stored.table.name c.remove.result (rw (← named.name_is) at named.in_catalog) c.remove.ensures.rest c.remove.ensures.refused
    ∙ ap (λ (n : List ℕ). without_counted n tables) named.name_is

pub at-counted-requires : goal.at-counted-requires
at-counted-requires g c =
    let at : place_named (catalog_of c.self.inside.catalog) c.requires.0 ≡ Some c.args.place = rw (← c.self.view_is) at c.requires.1 in
    kept_within c.self.inside.catalog c.requires.0 c.args.place at

pub returns-in_err-drop_table : goal.returns-in_err-drop_table
returns-in_err-drop_table g c =
    let failed = err_from_is_err_and c.from_residual.result c.from_residual.ensures.1 in
    rw (failed.1, ← c.self.view_is) (λ name at. (written g (goal.at.returns-in_err-drop_table g c).After-drop_table name at false c.self.inside.catalog c.self.inside.last.value (ap is_ok c.in_err-drop_table.was)
    (λ e. absurd (false≢true e)) (λ _. (refl, refl))).0)

pub invariant_of-self-2 : goal.invariant_of-self-2
invariant_of-self-2 g c =
    let after = goal.at.invariant_of-self-2 g c in
    let at : place_named (catalog_of c.self.inside.catalog) c.requires.0 ≡ Some c.args.place = rw (← c.self.view_is) at c.requires.1 in
    (written g after.After-drop_table c.requires.0 at true c.remove.new.self c.of.result.value (ap is_ok c.in_ok-drop_table.was) (λ _. (left g after.After-remove c.requires.0 at, c.of.ensures)) (λ e. absurd (false≢true (sym e)))).1

pub returns : goal.returns
returns g c =
    let after = goal.at.returns g c in
    rw (← c.self.view_is) (λ name at.
    (written g after.After-drop_table name at true c.remove.new.self c.of.result.value (ap is_ok c.in_ok-drop_table.was) (λ _. (left g after.After-remove name at, c.of.ensures)) (λ e. absurd (false≢true (sym e)))).0)
