use Rattle.std.proofs.Common.{◌≡◌, ◌++◌, drop}
use Rattle.escrow_machine.specs.Walked.{columns_from}
use Rattle.escrow_reserved.proofs.shown_bounds.all_column_bounds.Given as goal

abbrev pub invariant-loop-i : goal.invariant-loop-i
invariant-loop-i l = l.bounds ++ columns_from (drop l.i l.names) (drop l.i l.amounts) (drop l.i l.ranges) ≡ columns_from l.names l.amounts l.ranges
