use Rattle.std.proofs.Common.{◌≡◌, ◌≤◌, take, length}
use Rattle.escrow_num.specs.Reservation.{deltas}
use Rattle.escrow_checks.specs.declared.coefficients.TheConstants.Coefficients.{MAX_LEN}
use Rattle.escrow_bounds.proofs.changes.deltas.Given as goal

abbrev pub invariant-loop-i : goal.invariant-loop-i
invariant-loop-i l = record {
  few : length l.changes ≤ MAX_LEN;
  long : length l.amounts ≡ MAX_LEN;
  done : take l.i l.amounts ≡ deltas (take l.i l.changes);
}
