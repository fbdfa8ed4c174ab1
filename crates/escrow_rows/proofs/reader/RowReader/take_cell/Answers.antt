use Rattle.std.proofs.Common.{◌∙◌, refl, sym}
use Rattle.escrow_rows.proofs.Gathering.{cell_more, row_more}
use Rattle.escrow_rows.proofs.RowsRead.{enough_now}
use Rattle.escrow_rows.proofs.reader.RowReader.take_cell.Goals as goal

pub returns-in_ok-take-clause-more : goal.returns-in_ok-take-clause-more
returns-in_ok-take-clause-more g c = λ _ first cells so_far.
    let old = c.args.self.now in
    row_more old.span.start g.T.RowTaker.has_taken old.span.len first old.taker old.row cells so_far c.args.cell.now c.take_cell.new.self (c.in_ok-take_cell.ensures.next c.if-not-branch.false)
    c.take.new.self c.replace-row.result c.replace-row.new.dest c.new.result (sym c.len.ensures ∙ c.if-len-self.true) c.replace-row.ensures.value c.replace-row.ensures.after c.new.ensures.none c.new.ensures.held c.in_ok-take.ensures

pub returns-else-len-self-clause-more : goal.returns-else-len-self-clause-more
returns-else-len-self-clause-more g c = λ _ first cells so_far.
    let old = c.args.self.now in
    cell_more old.span.start g.T.RowTaker.has_taken old.span.len first old.taker old.row cells so_far c.args.cell.now c.take_cell.new.self (c.in_ok-take_cell.ensures.next c.if-not-branch.false)
    (λ all. c.if-len-self.false (c.len.ensures ∙ all))

pub returns-in_ok-take-clause-enough : goal.returns-in_ok-take-clause-enough
returns-in_ok-take-clause-enough g c = λ some. (
  refl,
  enough_now g.T.RowTaker.has_taken g.T.RowTaker.is_enough c.take.new.self c.replace-row.new.dest c.new.result c.is_done-self.result c.is_done-self.ensures.enough (c.is_done-self.ensures.done some) c.replace-row.ensures.after c.new.ensures.none some,
)
