use Rattle.std.proofs.Common.{◌≡◌, take}
use Rattle.escrow_num.specs.Reservation.{deltas}
use Rattle.escrow_checks.specs.Form.{changed}
use Rattle.escrow_tables.proofs.apply.add_changes.Given as goal

abbrev pub invariant-loop-i : goal.invariant-loop-i
invariant-loop-i l = l.amounts ≡ changed l.initial.amounts (deltas (take l.i l.changes))
