use Rattle.std.proofs.Common.{rules, w64}
use Rattle.std.proofs.lemmas.Int.{to_z-of_z}
use Rattle.escrow_rows.proofs.RowCounts.{stands_told_of}
use Rattle.escrow_rows.proofs.store.RowStore.stands.Goals as goal

pub returns-clause-told : goal.returns-clause-told
returns-clause-told g c =
    λ clean.
    let table = c.args.table.now in (
      c.in_ok-cells.ensures.is_open clean,
      stands_told_of g.S.Store c.self.inside.conn c.args.self.now c.count_cells.new.conn c.self.view_is table c.args.key.now _ _ _ (to_z-of_z w64 table.id (search rules)) c.datum.ensures
          (c.in_ok-cells.ensures.count clean),
    )
