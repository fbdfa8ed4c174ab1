use Rattle.std.specs.Prelude.{◌≡◌, ℕ, ℤ, None, false, insert, is_some}
use Rattle.std.proofs.Common.{◌∙◌, List, ap, ap₂, arith, rules, subst, sym, w64}
use Rattle.std.proofs.lemmas.Int.{to_z-of_z}
use Rattle.std.proofs.lemmas.List.{length-map}
use Rattle.escrow_schema.specs.declared.counted_table.CountedTable.{CountedTable}
use Rattle.escrow_schema.specs.Catalog.{table_named, with_table}
use Rattle.escrow_schema.specs.Stored.{IsListed, catalog_of, new_table}
use Rattle.escrow_schema.proofs.CatalogLemmas.{nothing_found}
use Rattle.escrow_schema.proofs.Listed.{catalog_more, listed_more, place_for}
use Rattle.escrow_schema.proofs.catalog.Catalog.add.Goals as goal
use Rattle.escrow_schema.proofs.catalog.Catalog.add.Goals.{in-Ok, in-Err}

pub invariant_of-self : goal.invariant_of-self
invariant_of-self c =
    let tables = c.self.inside.tables.items in
    let table = c.args.table in
    let counted = new_table c.args.id table in
    let none : is_some c.find.result ≡ false = sym c.is_some.ensures ∙ c.if-is_some.false in
    let new : table_named (catalog_of tables) table.name ≡ None =
    subst (λ ts. table_named (catalog_of ts) table.name ≡ None) (sym c.self.view_is) (sym c.find.ensures.found ∙ nothing_found c.find.result none) in
    let free = rw (← c.self.view_is) at c.requires.free in
    elim c.match-insert.branch [
      | in-Ok w ↦
          let at : c.place_in_order-place.result ≡ place_for tables table.name = rw c.deref.ensures.value at c.place_in_order-place.ensures.place in
          let placed : c.insert.new.self.items ≡ insert tables c.place_in_order-place.result c.new_table.result = rw w.in-Ok.is at c.insert.ensures.items in
          let added : c.insert.new.self.items ≡ insert tables (place_for tables table.name) counted = placed ∙ ap₂ (λ (i : ℕ) (o : CountedTable). insert tables i o) at (c.new_table.ensures ∙ ap (λ (i : ℤ). new_table i table) (to_z-of_z w64 c.args.id (search rules))) in
          subst IsListed (sym added)
          (listed_more tables counted (place_for tables table.name) (catalog_more tables counted) c.self.invariant c.requires.table c.requires.number free new
          (omega (arith, length-map tables (λ (o : CountedTable). o.stored.table))))
      | in-Err w ↦ rw (c.insert.ensures.items, w.in-Err.is) c.self.invariant
    ]

pub returns-clause-catalog : goal.returns-clause-catalog
returns-clause-catalog c =
    let tables = c.self.inside.tables.items in
    let table = c.args.table in
    let counted = new_table c.args.id table in
    elim c.match-insert.branch [
      | in-Ok w ↦
          let at : c.place_in_order-place.result ≡ place_for tables table.name = rw c.deref.ensures.value at c.place_in_order-place.ensures.place in
          let placed : c.insert.new.self.items ≡ insert tables c.place_in_order-place.result c.new_table.result = rw w.in-Ok.is at c.insert.ensures.items in
          let added : c.insert.new.self.items ≡ insert tables (place_for tables table.name) counted = placed ∙ ap₂ (λ (i : ℕ) (o : CountedTable). insert tables i o) at (c.new_table.ensures ∙ ap (λ (i : ℤ). new_table i table) (to_z-of_z w64 c.args.id (search rules))) in
          rw w.result-is (ap catalog_of added ∙ catalog_more tables counted ∙ ap (λ (ts : List CountedTable). with_table table (catalog_of ts)) c.self.view_is)
      | in-Err w ↦ rw w.result-is tt
    ]
