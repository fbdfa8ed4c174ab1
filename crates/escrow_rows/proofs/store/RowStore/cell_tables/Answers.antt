use Rattle.escrow_cells.specs.Read.{AreTablesOfCells}
use Rattle.escrow_cells.specs.Store.{HasTables, cells}
use Rattle.escrow_rows.proofs.Looking.{taken_of}
use Rattle.escrow_rows.proofs.store.RowStore.cell_tables.Goals as goal

pub returns-clause-rows : goal.returns-clause-rows
returns-clause-rows g c clean =
    taken_of g.S.Store c.self.inside.conn c.args.self.now c.cell_tables.new.conn c.self.view_is g.K.Sink.has_taken (λ db. HasTables db.schema) (λ db. AreTablesOfCells (cells db)) c.args.sink.now c.cell_tables.new.sink c.cell_tables.result
    (c.cell_tables.ensures.is_open clean) (c.cell_tables.ensures.rows clean)
