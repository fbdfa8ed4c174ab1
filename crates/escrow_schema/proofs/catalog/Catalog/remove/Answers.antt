use Rattle.std.specs.Prelude.{◌≡◌, Some, None, position, bytes_eq}
use Rattle.std.proofs.Common.{sym, ap, subst, ◌∙◌}
use Rattle.std.proofs.lemmas.Option.{none-some}
use Rattle.escrow_schema.specs.declared.counted_table.CountedTable.{CountedTable}
use Rattle.escrow_schema.specs.Catalog.{table_named}
use Rattle.escrow_schema.specs.Stored.{IsListed, catalog_of, without_counted}
use Rattle.escrow_schema.proofs.CatalogLemmas.{not_there}
use Rattle.escrow_schema.proofs.Listed.{listed_less, none_named, taken_at}
use Rattle.escrow_schema.proofs.catalog.Catalog.remove.Goals as goal

-- the table is found, and the others stay
taken : (c : goal.After-remove) → (table_named (catalog_of c.self.inside.tables.items) c.args.name ≡ Some c.remove.result.stored.table)
    × (c.remove.new.self.items ≡ without_counted c.args.name c.self.inside.tables.items)
taken c =
    let tables = c.self.inside.tables.items in
    let p = λ (o : CountedTable). bytes_eq o.stored.table.name c.args.name in
    let at : position p tables ≡ Some c.in-Some.place = subst (λ ts. position p ts ≡ Some c.in-Some.place) c.deref.ensures.value (sym c.place_by_name.ensures ∙ c.in-Some.is) in
    let out = taken_at tables c.args.name c.in-Some.place c.remove.result c.self.invariant at in
    (out.0 ∙ ap (λ (o : CountedTable). Some o.stored.table) (sym c.remove.ensures.value), c.remove.ensures.items ∙ out.1)

found : (c : goal.After-remove) → table_named (catalog_of c.args.self.now) c.args.name ≡ Some c.remove.result.stored.table
found c = subst (λ ts. table_named (catalog_of ts) c.args.name ≡ Some c.remove.result.stored.table) c.self.view_is (taken c).0

pub invariant_of-self : goal.invariant_of-self
invariant_of-self c = subst IsListed (sym (taken c).1) (listed_less c.args.name c.self.inside.tables.items c.self.invariant)

pub returns-in-Some-clause-removed : goal.returns-in-Some-clause-removed
returns-in-Some-clause-removed c = found c

pub returns-in-Some-clause-rest : goal.returns-in-Some-clause-rest
returns-in-Some-clause-rest c = subst (λ ts. c.remove.new.self.items ≡ without_counted c.args.name ts) c.self.view_is (taken c).1

pub returns-in-Some-clause-refused : goal.returns-in-Some-clause-refused
returns-in-Some-clause-refused c = (λ e. absurd (cc), λ none. absurd (none-some c.remove.result.stored.table (sym none ∙ found c)))

pub returns-in-None-clause-refused : goal.returns-in-None-clause-refused
returns-in-None-clause-refused c =
    let tables = c.self.inside.tables.items in
    let p = λ (o : CountedTable). bytes_eq o.stored.table.name c.args.name in
    let at : position p tables ≡ None = subst (λ ts. position p ts ≡ None) c.deref.ensures.value (sym c.place_by_name.ensures ∙ c.in-None.is) in
    let none = none_named tables c.args.name (sym (not_there p tables at)) in
    (λ _. subst (λ ts. table_named (catalog_of ts) c.args.name ≡ None) c.self.view_is none, λ _. cc)
