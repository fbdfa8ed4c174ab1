use Rattle.escrow_bounds.specs.Listed.{columns_from}
use Rattle.escrow_bounds.proofs.Forms.{Recount}
use Rattle.escrow_bounds.proofs.Steps.{Stepped}
use Rattle.escrow_bounds.proofs.sums.recount_columns.Given as goal

abbrev pub invariant-loop-i : goal.invariant-loop-i
invariant-loop-i l = Stepped (Recount l.counting l.changes) l.i (columns_from l.count 0 l.initial.columns) (columns_from l.count 0 l.columns)
