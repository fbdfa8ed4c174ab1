use Rattle.std.proofs.Common.{◌∙◌, rules, w64}
use Rattle.std.proofs.lemmas.Int.{to_z-of_z}
use Rattle.escrow_rows.proofs.ImageInsert.{inserts, puts_row}
use Rattle.escrow_rows.proofs.Runs.{writes_as}
use Rattle.escrow_rows.proofs.store.RowStore.insert_cells.Goals as goal

pub returns : goal.returns
returns g c =
    let table = c.args.table.now in
    let row = c.args.row.now in
    let number = to_z-of_z w64 table.id (search rules) in
    let values = c.as_slice.ensures ∙ c.in_ok-values.ensures in
    let puts = puts_row table row _ c.as_slice.result.now c.in_ok-steps.steps.items c.as_slice-2.result.now number values c.as_slice-2.ensures.value c.in_ok-steps.ensures in
    writes_as g.S.Store c.self.inside.conn c.args.self.now c.run_unless_refused.new.conn _ _ _ c.self.view_is (inserts table row c.as_slice-2.result.now c.requires puts) c.run_unless_refused.ensures.writes
