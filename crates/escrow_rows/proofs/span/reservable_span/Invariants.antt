use Rattle.escrow_rows.proofs.Spans.{Spans}
use Rattle.escrow_rows.proofs.span.reservable_span.Given as goal

abbrev pub invariant-loop-i : goal.invariant-loop-i
invariant-loop-i l = Spans l.columns l.i l.span.start l.span.len
