use Rattle.std.proofs.Common.{rules, w64}
use Rattle.std.proofs.lemmas.Int.{to_z-of_z}
use Rattle.escrow_rows.proofs.ReadCells.{span_told_of}
use Rattle.escrow_rows.proofs.store.RowStore.cells_in.Goals as goal

pub returns-clause-told : goal.returns-clause-told
returns-clause-told g c =
    λ clean.
    let table = c.args.table.now in
    let span = c.args.span in
    let number = to_z-of_z w64 table.id (search rules) in
    span_told_of g.S.Store c.self.inside.conn c.args.self.now c.span_cells.new.conn c.self.view_is table c.args.key.now _ _ number c.datum.ensures (c.in_ok-cells.ensures.is_open clean)
    c.in_ok-cells.cells.items c.some_cells.result c.some_cells.ensures.found
    span.start span.len _ _ (search rules) (search rules) c.requires.some c.requires.within (c.in_ok-cells.ensures.rows clean)
