use Rattle.std.proofs.Common.{IsPermutation}
use Rattle.escrow_cells.specs.Store.{HasTables, metas}
use Rattle.escrow_rows.proofs.Looking.{taken_of}
use Rattle.escrow_rows.proofs.store.RowStore.metas.Goals as goal

pub returns-clause-rows : goal.returns-clause-rows
returns-clause-rows g c clean =
    taken_of g.S.Store c.self.inside.conn c.args.self.now c.metas.new.conn c.self.view_is g.K.Sink.has_taken (λ db. HasTables db.schema) (λ db. IsPermutation (metas db)) c.args.sink.now c.metas.new.sink c.metas.result
    (c.metas.ensures.is_open clean) (c.metas.ensures.rows clean)
