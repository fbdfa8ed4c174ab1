use Rattle.std.proofs.Common.{List, ◌∙◌, ap, length, take, drop}
use Rattle.sqlite.specs.Held.{state}
use Rattle.escrow_num.specs.declared.row.Row.{Row}
use Rattle.escrow_schema.specs.declared.column.Column.{Column}
use Rattle.escrow_schema.specs.Fit.{values_of}
use Rattle.escrow_schema.proofs.BackLemmas.{length-values_of}
use Rattle.escrow_rows.specs.Placed.{placed_in}
use Rattle.escrow_rows.proofs.ReadCells.{amounts_back, some_told}
use Rattle.escrow_rows.proofs.Spans.{amounts_in_span, reservables_in_span}
use Rattle.escrow_rows.proofs.store.RowStore.amounts.Goals as goal

pub returns-clause-told : goal.returns-clause-told
returns-clause-told g c =
    λ clean.
    let table = c.args.table.now in
    let span = c.reservable_span-span.result in
    let of = c.reservable_span-span.ensures in
    let told = c.in_ok-cells.ensures.told clean in
    let db = (state g.S.Store c.args.self.now).now in
    let tells = rw c.in-Some.is at told.1 in (
      told.0,
      some_told table c.args.key.now db (λ (row : Row). placed_in span.start span.len (values_of table.table row)) (λ (row : Row). row.amounts) _ c.in_ok-amounts.amounts tells
          (λ row fits is.
          let values = values_of table.table row in
          c.in_ok-amounts.ensures.told (take span.len (drop span.start values)) (c.as_slice.ensures ∙ is)
          ∙ amounts_in_span table.table.columns c.as_slice-columns.result.now span.start span.len c.as_slice-columns.ensures of.before of.behind values (length-values_of table.table row fits)
          ∙ amounts_back table.table row c.requires fits),
    )

pub returns-clause-many : goal.returns-clause-many
returns-clause-many g c =
    let span = c.reservable_span-span.result in
    let of = c.reservable_span-span.ensures in
    c.in_ok-amounts.ensures.many ∙ ap (λ (cs : List Column). length cs) (reservables_in_span c.args.table.now.table.columns c.as_slice-columns.result.now span.start span.len c.as_slice-columns.ensures of.before of.behind)
