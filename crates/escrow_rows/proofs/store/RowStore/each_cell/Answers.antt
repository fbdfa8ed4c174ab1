use Rattle.std.proofs.Common.{◌∙◌, rules, w64}
use Rattle.std.proofs.lemmas.Int.{to_z-of_z}
use Rattle.escrow_rows.proofs.SpansRead.{some_read, whole_read}
use Rattle.escrow_rows.proofs.store.RowStore.each_cell.Goals as goal

pub returns-then-span-len-clause-taken : goal.returns-then-span-len-clause-taken
returns-then-span-len-clause-taken g c = λ clean.
    let span = c.args.span in
    let table = c.args.table.now in
    let number = to_z-of_z w64 table.id (search rules) in
    whole_read g.S.Store c.self.inside.conn c.args.self.now c.table_cells.new.conn c.self.view_is g.T.RowTaker.has_taken g.T.RowTaker.is_enough table c.args.reader.now c.table_cells.new.sink _ span.start span.len c.table_cells.result
    number (c.if-span-len.true ∙ c.len.ensures) c.requires.within (c.table_cells.ensures.is_open clean) (c.table_cells.ensures.rows clean)

pub returns-clause-taken : goal.returns-clause-taken
returns-clause-taken g c = λ clean.
    let span = c.args.span in
    let table = c.args.table.now in
    let number = to_z-of_z w64 table.id (search rules) in
    some_read g.S.Store c.self.inside.conn c.args.self.now c.spans_cells.new.conn c.self.view_is g.T.RowTaker.has_taken g.T.RowTaker.is_enough table c.args.reader.now c.spans_cells.new.sink _ _ _ span.start span.len c.spans_cells.result
    number (search rules) (search rules) (c.spans_cells.ensures.is_open clean) (c.spans_cells.ensures.rows clean)
