use Rattle.std.proofs.Common.{take, map}
use Rattle.escrow_bounds.specs.Filling.{AreFilled}
use Rattle.escrow_bounds.proofs.bounds.Bounds.prepare.Given as goal

abbrev pub invariant-loop-r : goal.invariant-loop-r
invariant-loop-r l = AreFilled l.table l.checks (take l.r-index (map (λ r. r.now) l.reservations)) l.self l.filled
