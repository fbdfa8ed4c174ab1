use Rattle.std.proofs.Common.{◌≡◌, take}
use Rattle.escrow_bounds.specs.Moved.{all_moved}
use Rattle.escrow_bounds.proofs.place.move_all.Given as goal

abbrev pub invariant-loop-i : goal.invariant-loop-i
invariant-loop-i l = l.amounts ≡ all_moved l.initial.amounts (take l.i l.changes)
