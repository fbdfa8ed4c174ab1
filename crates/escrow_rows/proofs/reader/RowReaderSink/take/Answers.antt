use Rattle.std.proofs.Common.{Ok, ap}
use Rattle.escrow_rows.proofs.RowsRead.{taken_cell}
use Rattle.escrow_rows.proofs.reader.RowReaderSink.take.Goals as goal

pub returns-in_ok-self : goal.returns-in_ok-self
returns-in_ok-self g c = λ first rows taken.
    let told = c.in_ok-self.ensures in
    taken_cell g.T.RowTaker.has_taken g.T.RowTaker.is_enough first c.args.self.now c.take_cell.new.self c.in_ok-self.field-0 rows c.args.row.now taken c.if-self.true c.if-not-self.true told.same told.enough told.more (λ bad. told.other (ap Ok bad))
