use Rattle.std.proofs.Common.{sym, ◌∙◌}
use Rattle.sqlite.specs.Held.{state}
use Rattle.escrow_num.specs.declared.row.Row.{Row}
use Rattle.escrow_schema.specs.Fit.{values_of}
use Rattle.escrow_rows.specs.Placed.{placed}
use Rattle.escrow_rows.proofs.ReadCells.{placed_same, some_told}
use Rattle.escrow_rows.proofs.store.RowStore.values.Goals as goal

pub returns-clause-told : goal.returns-clause-told
returns-clause-told g c =
    λ clean.
    let table = c.args.table.now in
    let told = c.in_ok-cells.ensures.told clean in
    let db = (state g.S.Store c.args.self.now).now in
    let tells = rw c.in-Some.is at told.1 in (
      told.0,
      some_told table c.args.key.now db (λ (row : Row). placed 1 (values_of table.table row)) (values_of table.table) _ c.from_vec.result tells
          (λ row fits is. c.from_vec.ensures ∙ placed_same 1 _ (values_of table.table row) (sym c.in_ok-values.ensures ∙ c.as_slice.ensures ∙ is)),
    )
