use Rattle.std.proofs.Common.{◌≡◌, length}
use Rattle.escrow_num.specs.declared.value.RowName.{RowName}
use Rattle.escrow_bounds.specs.Altered.{adopted}
use Rattle.escrow_bounds.specs.Bounds.{place_at}
use Rattle.escrow_bounds.proofs.bounds.Bounds.adopt.Given as goal

abbrev pub invariant-loop-row : goal.invariant-loop-row
invariant-loop-row l =
    (other : RowName) → adopted (place_at l.addition other) (place_at l.self other) ≡ adopted (place_at l.initial.addition other) (place_at l.initial.self other)

abbrev pub decreases-loop-row : goal.decreases-loop-row
decreases-loop-row l = length l.addition
