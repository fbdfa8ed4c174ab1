use Rattle.std.proofs.Common.{◌≡◌, Bool, List, Some, true, false, is_ok, is_some, refl, sym, ap, subst}
use Rattle.std.proofs.lemmas.Bool.{false≢true}
use Rattle.std.proofs.lemmas.Result.{err_from_is_err_and}
use Rattle.sqlite.specs.Held.{Held, state}
use Rattle.escrow_schema.specs.Altered.{with_altered}
use Rattle.escrow_schema.specs.Catalog.{place_named}
use Rattle.escrow_cells.specs.Calls.{Transacts}
use Rattle.escrow_rows.specs.Changes.{Redefines}
use Rattle.escrow_rows.specs.View.{rows_in}
use Rattle.escrow_schema.specs.declared.counted_table.CountedTable.{CountedTable}
use Rattle.escrow_tables.specs.Calls.{Writes}
use Rattle.escrow_tables.specs.Inside.{Keeps, catalog_of, stored_of}
use Rattle.escrow_schema.specs.Stored.{with_definition}
use Rattle.escrow_tables.proofs.Placed.{is_placed, item_at, kept_within}
use Rattle.escrow_tables.proofs.Redefined.{is_over, redefine_keeps, redefine_writes}
use Rattle.escrow_tables.proofs.Writing.{seen}
use Rattle.escrow_tables.proofs.tables.Tables.redefine.Given as given
use Rattle.escrow_tables.proofs.tables.Tables.redefine.Goals as goal
use Rattle.escrow_tables.proofs.tables.Tables.redefine.Goals.{After-redefine}

-- the call writes, and the fields keep their contents
written : (g : given.Over) (c : After-redefine g) (is_done : Bool) (fields : List CountedTable) (later : Held g.row.S.Denot) → is_ok c.redefine.result ≡ is_done
    → (is_done ≡ true → (fields ≡ with_definition c.args.table c.self.inside.catalog) × (later ≡ c.redefine.new.self))
    → (is_done ≡ false → (fields ≡ c.self.inside.catalog) × (later ≡ c.self.inside.last.value))
    → Writes g.S.Store (seen g.S.Store c.self.inside.store c.self.inside.last.value c.self.inside.catalog) (seen g.S.Store c.redefine.new.self later fields) is_done
    (with_altered c.args.table (catalog_of c.self.inside.catalog)) (rows_in (stored_of c.self.inside.catalog) (state g.S.Store c.self.inside.last.value).now)
    × Keeps (state g.S.Store c.redefine.new.self) (state g.S.Store later) fields
written g c is_done fields later ok if_done if_not =
    let tables = c.self.inside.catalog in
    let counted = c.at.result.now in
    let table = c.args.table in
    let old = c.self.inside.store in
    let new = c.redefine.new.self in
    let at : place_named (catalog_of tables) table.name ≡ Some c.args.place = rw (← c.self.view_is) at c.requires.place in
    let alike = is_over tables c.args.place counted table at (item_at c.self.inside.catalog c.args.place c.at.result.now c.at.ensures.at) (rw (← c.self.view_is) at c.requires.alike) in
    let listed = c.self.invariant.listed in
    let it = subst (λ b. Transacts (state g.S.Store old) (state g.S.Store new) b (Redefines counted.stored table.checks)) ok c.redefine.ensures in (
      redefine_writes tables c.args.place counted table listed c.requires.table at (item_at c.self.inside.catalog c.args.place c.at.result.now c.at.ensures.at) alike
          g.S.Store old new c.self.inside.last.value later is_done it fields c.self.invariant if_done if_not,
      redefine_keeps tables c.args.place counted table listed c.requires.table at (item_at c.self.inside.catalog c.args.place c.at.result.now c.at.ensures.at) alike
          g.S.Store old new c.self.inside.last.value later is_done it fields c.self.invariant if_done if_not,
    )

pub at-requires : goal.at-requires
at-requires g c = kept_within c.self.inside.catalog c.args.table.name c.args.place (rw (← c.self.view_is) at c.requires.place)

pub redefine-requires-clause-alike : goal.redefine-requires-clause-alike
redefine-requires-clause-alike g c =
    is_over c.self.inside.catalog c.args.place c.at.result.now c.args.table (rw (← c.self.view_is) at c.requires.place) (item_at c.self.inside.catalog c.args.place c.at.result.now c.at.ensures.at)
    (rw (← c.self.view_is) at c.requires.alike)

pub replace-requires-clause-there : goal.replace-requires-clause-there
replace-requires-clause-there g c =
    let at : place_named (catalog_of c.self.inside.catalog) c.args.table.name ≡ Some c.args.place = rw (← c.self.view_is) at c.requires.place in
    ap is_some (is_placed c.self.inside.catalog c.args.table.name c.args.place c.at.result.now at (item_at c.self.inside.catalog c.args.place c.at.result.now c.at.ensures.at)).named.in_catalog

pub invariant_of-self : goal.invariant_of-self
invariant_of-self g c =
    (written g (goal.at.invariant_of-self g c).After-redefine false c.self.inside.catalog c.self.inside.last.value (ap is_ok c.in_err-redefine.was) (λ e. absurd (false≢true e)) (λ _. (refl, refl))).1

pub returns-in_err-redefine : goal.returns-in_err-redefine
returns-in_err-redefine g c =
    let failed = err_from_is_err_and c.from_residual.result c.from_residual.ensures.1 in
    rw (failed.1, ← c.self.view_is)
    ((written g (goal.at.returns-in_err-redefine g c).After-redefine false c.self.inside.catalog c.self.inside.last.value (ap is_ok c.in_err-redefine.was) (λ e. absurd (false≢true e)) (λ _. (refl, refl))).0)

pub invariant_of-self-2 : goal.invariant_of-self-2
invariant_of-self-2 g c =
    (written g (goal.at.invariant_of-self-2 g c).After-redefine true c.replace.new.self c.of.result.value (ap is_ok c.in_ok-redefine.was) (λ _. (c.replace.ensures, c.of.ensures)) (λ e. absurd (false≢true (sym e)))).1

pub returns : goal.returns
returns g c =
    rw (← c.self.view_is)
    ((written g (goal.at.returns g c).After-redefine true c.replace.new.self c.of.result.value (ap is_ok c.in_ok-redefine.was) (λ _. (c.replace.ensures, c.of.ensures)) (λ e. absurd (false≢true (sym e)))).0)
