use Rattle.std.proofs.Common.{◌≡◌, List, None, Some, subst, sym}
use Rattle.escrow_schema.specs.declared.counted_table.CountedTable.{CountedTable}
use Rattle.escrow_schema.specs.Stored.{counted_named}
use Rattle.escrow_schema.proofs.CatalogLemmas.{found_table}
use Rattle.escrow_schema.proofs.Listed.{none_named, some_named}
use Rattle.escrow_schema.proofs.catalog.Catalog.find.Goals as goal

pub returns-in_err-counted-clause-found : goal.returns-in_err-counted-clause-found
returns-in_err-counted-clause-found c =
    let none = subst (λ (ts : List CountedTable). None ≡ counted_named ts c.args.name) c.tables.ensures.value c.in_err-counted.ensures in
    rw c.from_residual.ensures (sym (none_named c.args.self.now c.args.name none))

pub returns-clause-found : goal.returns-clause-found
returns-clause-found c =
    let counted = c.in_ok-counted.counted.now in
    let found = subst (λ (ts : List CountedTable). Some counted ≡ counted_named ts c.args.name) c.tables.ensures.value c.in_ok-counted.ensures in
    sym (some_named c.args.self.now c.args.name counted found)

pub returns-clause-table : goal.returns-clause-table
returns-clause-table c =
    let counted = c.in_ok-counted.counted.now in
    let found = subst (λ (ts : List CountedTable). Some counted ≡ counted_named ts c.args.name) c.tables.ensures.value c.in_ok-counted.ensures in
    let tables = c.args.self.now in
    found_table _ c.args.name counted.stored.table c.tables.ensures.listed.is_catalog (some_named tables c.args.name counted found)
