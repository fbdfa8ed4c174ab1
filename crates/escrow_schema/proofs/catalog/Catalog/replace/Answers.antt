use Rattle.std.specs.Prelude.{◌≡◌, Some, None, bytes_eq, is_some, position}
use Rattle.std.proofs.Common.{◌∙◌, ap, subst, sym}
use Rattle.std.proofs.lemmas.Bool.{false≢true}
use Rattle.escrow_schema.specs.declared.counted_table.CountedTable.{CountedTable}
use Rattle.escrow_schema.specs.Catalog.{table_named}
use Rattle.escrow_schema.specs.Stored.{IsListed, catalog_of, with_definition}
use Rattle.escrow_schema.proofs.CatalogLemmas.{not_there}
use Rattle.escrow_schema.proofs.Listed.{defined_at, listed_defined, none_named}
use Rattle.escrow_schema.proofs.catalog.Catalog.replace.Goals as goal

pub define_at-requires : goal.define_at-requires
define_at-requires c =
    let at = subst (λ ts. position (λ (o : CountedTable). bytes_eq o.stored.table.name c.args.table.name) ts ≡ Some c.in-Some.place) c.deref.ensures.value (sym c.place_by_name.ensures ∙ c.in-Some.is) in
    (defined_at c.args.table c.self.inside.tables.items c.in-Some.place c.self.invariant at).0

-- the table that replaces it
defined : (c : goal.After-define_at) → c.define_at.new.tables.items ≡ with_definition c.args.table c.self.inside.tables.items
defined c =
    let at = subst (λ ts. position (λ (o : CountedTable). bytes_eq o.stored.table.name c.args.table.name) ts ≡ Some c.in-Some.place) c.deref.ensures.value (sym c.place_by_name.ensures ∙ c.in-Some.is) in
    let there = (defined_at c.args.table c.self.inside.tables.items c.in-Some.place c.self.invariant at).1 in
    c.define_at.ensures there.0 there.1 ∙ there.2

pub invariant_of-self : goal.invariant_of-self
invariant_of-self c = subst IsListed (sym (defined c)) (listed_defined c.args.table c.self.inside.tables.items c.requires.table c.self.invariant)

pub returns-in-Some : goal.returns-in-Some
returns-in-Some c = subst (λ ts. c.define_at.new.tables.items ≡ with_definition c.args.table ts) c.self.view_is (defined c)

pub returns-in-None : goal.returns-in-None
returns-in-None c =
    let tables = c.self.inside.tables.items in
    let p = λ (o : CountedTable). bytes_eq o.stored.table.name c.args.table.name in
    let at : position p tables ≡ None = subst (λ ts. position p ts ≡ None) c.deref.ensures.value (sym c.place_by_name.ensures ∙ c.in-None.is) in
    let none : table_named (catalog_of c.args.self.now) c.args.table.name ≡ None =
    subst (λ ts. table_named (catalog_of ts) c.args.table.name ≡ None) c.self.view_is (none_named tables c.args.table.name (sym (not_there p tables at))) in
    absurd (false≢true (sym (ap is_some none) ∙ c.requires.there))
