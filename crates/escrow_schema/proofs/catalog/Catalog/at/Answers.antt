use Rattle.std.proofs.Common.{◌≡◌, List, get_or, refl, subst}
use Rattle.std.proofs.lemmas.Option.{slice_get_read}
use Rattle.std.specs.Prelude.{length}
use Rattle.escrow_schema.specs.declared.counted_table.CountedTable.{CountedTable}
use Rattle.escrow_schema.proofs.Listed.{table_at}
use Rattle.escrow_schema.proofs.catalog.Catalog.at.Goals as goal

item : (c : goal.After-index-tables-place) → c.index-tables-place.result ≡ get_or c.args.self.now c.args.place c.index-tables-place.result
item c = subst (λ (ts : List CountedTable). c.index-tables-place.result ≡ get_or ts c.args.place c.index-tables-place.result) c.tables.ensures.value c.index-tables-place.is

pub returns-clause-at : goal.returns-clause-at
returns-clause-at c = slice_get_read c.args.self.now (length c.args.self.now) c.args.place c.index-tables-place.result refl c.requires (item c)

pub returns-clause-table : goal.returns-clause-table
returns-clause-table c = table_at c.args.self.now c.args.place c.index-tables-place.result c.tables.ensures.listed c.requires (item c)
