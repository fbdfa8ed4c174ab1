use Rattle.escrow_rows.proofs.Spans.{spans_passed, spans_reached}
use Rattle.escrow_rows.proofs.span.reservable_span.Goals as goal
use Rattle.escrow_rows.proofs.span.reservable_span.Goals.{then-column, else-column}

pub loop-i-preserved : goal.loop-i-preserved
loop-i-preserved c =
    let columns = c.args.columns.now in
    let i = c.loop-i.i in
    let span = c.loop-i.span in
    let so_far = c.loop-i.invariant in
    elim c.if-column.branch [
      | then-column w ↦
          rw w.span-is (spans_reached columns i span.start span.len so_far c.loop-i-test.true w.up_to-span.result.start w.up_to-span.result.len w.up_to-span.ensures.first w.up_to-span.ensures.more w.up_to-span.ensures.last)
      | else-column w ↦ rw w.span-is (spans_passed columns i span.start span.len so_far c.loop-i-test.true c.index-columns-i.result c.index-columns-i.is w.if-column.false)
    ]
