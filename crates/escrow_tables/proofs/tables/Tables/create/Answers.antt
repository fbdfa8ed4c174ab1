use Rattle.std.proofs.Common.{rules, ◌≡◌, ℤ, Bool, List, true, false, is_ok, insert, of_z, to_z, w64, refl, sym, ap, subst, ◌∙◌}
use Rattle.std.proofs.lemmas.Bool.{false≢true}
use Rattle.std.proofs.lemmas.Int.{to_z-of_z}
use Rattle.sqlite.specs.Held.{Held, state}
use Rattle.escrow_schema.specs.declared.counted_table.CountedTable.{CountedTable}
use Rattle.escrow_schema.specs.Catalog.{with_table}
use Rattle.escrow_schema.specs.Stored.{new_table}
use Rattle.escrow_cells.specs.Calls.{Transacts}
use Rattle.escrow_rows.specs.Changes.{Creates}
use Rattle.escrow_rows.specs.View.{rows_in}
use Rattle.escrow_tables.specs.Calls.{Writes}
use Rattle.escrow_tables.specs.Tables.{Tables}
use Rattle.escrow_tables.specs.Inside.{Keeps, catalog_of, stored_of}
use Rattle.escrow_tables.proofs.Created.{IsNew, added_at, create_keeps, create_writes, is_new, undone}
use Rattle.escrow_tables.proofs.Writing.{seen, untouched}
use Rattle.escrow_tables.proofs.tables.Tables.create.Given as given
use Rattle.escrow_tables.proofs.tables.Tables.create.Goals as goal
use Rattle.escrow_tables.proofs.tables.Tables.create.Goals.{After-create_table, After-remove}

-- the table is new to the catalog
new : (g : given.Over) (c : After-create_table g) → IsNew c.self.inside.catalog (new_table c.in-Some.id c.args.table).stored
new g c =
    is_new c.self.inside.catalog (new_table c.in-Some.id c.args.table).stored c.args.self.now.catalog (ap (λ (v : Tables g.row.S.Denot). v.catalog) c.self.view_is)
    (rw c.tables.ensures.value at c.in-Some.ensures) c.requires.table c.requires.new c.requires.room

-- it is inserted into the catalog
was_added : (g : given.Over) (c : After-create_table g) → c.add.new.self ≡ insert c.self.inside.catalog c.in-Ok.place (new_table c.in-Some.id c.args.table)
was_added g c =
    let number : to_z w64 (of_z w64 c.in-Some.id) ≡ c.in-Some.id = to_z-of_z w64 c.in-Some.id (search rules) in
    c.in-Ok.ensures.added ∙ ap (λ (id : ℤ). insert c.self.inside.catalog c.in-Ok.place (new_table id c.args.table)) number

-- the call writes, and the fields keep their contents
written : (g : given.Over) (c : After-create_table g) (is_done : Bool) (fields : List CountedTable) (later : Held g.row.S.Denot) → is_ok c.create_table.result ≡ is_done
    → (is_done ≡ true → (fields ≡ c.add.new.self) × (later ≡ c.create_table.new.self)) → (is_done ≡ false → (fields ≡ c.self.inside.catalog) × (later ≡ c.self.inside.last.value))
    → Writes g.S.Store (seen g.S.Store c.self.inside.store c.self.inside.last.value c.self.inside.catalog) (seen g.S.Store c.create_table.new.self later fields) is_done
    (with_table c.args.table (catalog_of c.self.inside.catalog)) (rows_in (stored_of c.self.inside.catalog) (state g.S.Store c.self.inside.last.value).now)
    × Keeps (state g.S.Store c.create_table.new.self) (state g.S.Store later) fields
written g c is_done fields later ok if_done if_not =
    let tables = c.self.inside.catalog in
    let place = c.in-Ok.place in
    let counted = new_table c.in-Some.id c.args.table in
    let old = c.self.inside.store in
    let added = was_added g c in
    let catalog = rw added at c.in-Ok.ensures.catalog in
    let at : c.at.result.now ≡ counted = added_at tables place counted c.at.result.now (rw added at c.in-Ok.ensures.within) (rw added at c.at.ensures.at) in
    let it = subst (λ (o : CountedTable). Transacts (state g.S.Store old) (state g.S.Store c.create_table.new.self) is_done (Creates o.stored)) at
    (subst (λ b. Transacts (state g.S.Store old) (state g.S.Store c.create_table.new.self) b (Creates c.at.result.now.stored)) ok c.create_table.ensures) in
    let done : is_done ≡ true → (fields ≡ insert tables place counted) × (later ≡ c.create_table.new.self) = λ e. ((if_done e).0 ∙ added, (if_done e).1) in (
      create_writes tables place counted refl c.self.invariant.listed (new g c) catalog g.S.Store old c.create_table.new.self c.self.inside.last.value later is_done it fields c.self.invariant done if_not,
      create_keeps tables place counted refl c.self.invariant.listed (new g c) catalog g.S.Store old c.create_table.new.self c.self.inside.last.value later is_done it fields c.self.invariant done if_not,
    )

-- if the store refuses, the table is removed again, and the others remain
left : (g : given.Over) (c : After-remove g) → IsNew c.self.inside.catalog (new_table c.in-Some.id c.args.table).stored
    → c.add.new.self ≡ insert c.self.inside.catalog c.in-Ok.place (new_table c.in-Some.id c.args.table) → c.remove.new.self ≡ c.self.inside.catalog
left g c new added =
    undone c.self.inside.catalog c.add.new.self c.remove.new.self c.in-Ok.place (new_table c.in-Some.id c.args.table) c.remove.result new.unheard added c.remove.ensures.rest c.remove.ensures.refused

pub returns-in_default-add : goal.returns-in_default-add
returns-in_default-add g c = rw (c.in_default-add.ensures.unchanged, ← c.self.view_is) (untouched g.S.Store (seen g.S.Store c.self.inside.store c.self.inside.last.value c.self.inside.catalog) _ _)

pub invariant_of-self-in-Err : goal.invariant_of-self-in-Err
invariant_of-self-in-Err g c =
    let after = goal.at.invariant_of-self-in-Err g c in
    (written g after.After-create_table false c.remove.new.self c.self.inside.last.value (ap is_ok c.in-Err.is) (λ e. absurd (false≢true e)) (λ _. (left g after.After-remove (new g after.After-create_table) (was_added g after.After-create_table), refl))).1

pub returns-in-Err : goal.returns-in-Err
returns-in-Err g c =
    let after = goal.at.returns-in-Err g c in
    rw (← c.self.view_is)
    ((written g after.After-create_table false c.remove.new.self c.self.inside.last.value (ap is_ok c.in-Err.is) (λ e. absurd (false≢true e)) (λ _. (left g after.After-remove (new g after.After-create_table) (was_added g after.After-create_table), refl))).0)

pub invariant_of-self-2 : goal.invariant_of-self-2
invariant_of-self-2 g c =
    (written g (goal.at.invariant_of-self-2 g c).After-create_table true c.add.new.self c.of.result.value (ap is_ok c.in_default-create_table.is) (λ _. (refl, c.of.ensures)) (λ e. absurd (false≢true (sym e)))).1

pub returns : goal.returns
returns g c =
    rw (← c.self.view_is)
    ((written g (goal.at.returns g c).After-create_table true c.add.new.self c.of.result.value (ap is_ok c.in_default-create_table.is) (λ _. (refl, c.of.ensures)) (λ e. absurd (false≢true (sym e)))).0)
