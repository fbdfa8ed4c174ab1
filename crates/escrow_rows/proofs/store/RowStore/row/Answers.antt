use Rattle.std.proofs.Common.{sym, ap, ◌∙◌}
use Rattle.sqlite.specs.Held.{state}
use Rattle.escrow_schema.specs.Fit.{row_with}
use Rattle.escrow_rows.proofs.WholeRows.{row_made}
use Rattle.escrow_rows.proofs.store.RowStore.row.Goals as goal

pub returns-clause-told : goal.returns-clause-told
returns-clause-told g c = λ clean.
    let table = c.args.table.now in
    let db = (state g.S.Store c.args.self.now).now in
    let told = rw c.in-Some.is at c.in_ok-values.ensures.told clean in (
      told.0,
      row_made table db c.args.key.now c.in-Some.values c.in_ok-row.row c.requires told.1 (ap (row_with table.table) (sym c.as_slice.ensures) ∙ c.in_ok-row.ensures.made),
    )
