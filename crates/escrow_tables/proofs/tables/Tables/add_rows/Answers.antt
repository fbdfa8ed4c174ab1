use Rattle.std.proofs.Common.{◌≡◌, Some, sym, subst}
use Rattle.escrow_schema.specs.declared.table.TableDef.{TableDef}
use Rattle.escrow_schema.specs.Catalog.{place_named}
use Rattle.escrow_tables.proofs.WholeReads.{adds, at_place, one_there}
use Rattle.escrow_tables.proofs.tables.Tables.add_rows.Goals as goal

pub rows_at-requires : goal.rows_at-requires
rows_at-requires g c =
    let catalog = c.args.self.now.catalog in
    let here = at_place catalog c.args.place c.table.ensures.catalog.order c.requires in
    let first = one_there catalog c.args.place here.0 c.table.result.now here.1 c.table.ensures.named in
    subst (λ (t : TableDef). place_named catalog t.name ≡ Some c.args.place) (sym first) here.1.placed

pub returns-clause-told : goal.returns-clause-told
returns-clause-told g c = λ clean.
    let old = c.args.self.now in
    let here = at_place old.catalog c.args.place c.table.ensures.catalog.order c.requires in
    let first = one_there old.catalog c.args.place here.0 c.table.result.now here.1 c.table.ensures.named in
    let before = c.args.rows.now.items in
    adds old.catalog old.rows c.args.place here.0 c.table.result.now c.in_ok-rows_at.field-0 before c.append.new.self.items here.1 first (c.in_ok-rows_at.ensures.told clean)
    (rw c.into_vec-more.ensures at c.in_ok-append.ensures.items)
