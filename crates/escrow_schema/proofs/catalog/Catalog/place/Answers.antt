use Rattle.std.proofs.Common.{◌≡◌, List, ap, bytes_eq, position, subst, sym, ◌∙◌}
use Rattle.std.specs.Prelude.{is_some}
use Rattle.escrow_schema.specs.declared.counted_table.CountedTable.{CountedTable}
use Rattle.escrow_schema.specs.declared.table.TableDef.{TableDef}
use Rattle.escrow_schema.specs.Catalog.{place_named}
use Rattle.escrow_schema.specs.Stored.{catalog_of}
use Rattle.escrow_schema.proofs.Listed.{has_place, kept_place, place_within}
use Rattle.escrow_schema.proofs.catalog.Catalog.place.Goals as goal

kept : (c : goal.After-place_by_name) → c.place_by_name.result ≡ position (λ (k : CountedTable). bytes_eq k.stored.table.name c.args.name) c.args.self.now
kept c =
    subst (λ (ts : List CountedTable). c.place_by_name.result ≡ position (λ (k : CountedTable). bytes_eq k.stored.table.name c.args.name) ts) c.tables.ensures.value c.place_by_name.ensures

found : (c : goal.After-place_by_name) → c.place_by_name.result ≡ place_named (catalog_of c.args.self.now) c.args.name
found c = kept c ∙ sym (kept_place c.args.self.now c.args.name)

pub returns-clause-place : goal.returns-clause-place
returns-clause-place c = found c

pub returns-clause-there : goal.returns-clause-there
returns-clause-there c = ap is_some (found c) ∙ has_place (λ (t : TableDef). bytes_eq t.name c.args.name) (catalog_of c.args.self.now)

pub returns-clause-within : goal.returns-clause-within
returns-clause-within c = place_within c.args.self.now c.args.name c.place_by_name.result (kept c)
