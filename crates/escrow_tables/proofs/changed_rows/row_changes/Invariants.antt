use Rattle.std.proofs.Common.{◌≡◌, map, take}
use Rattle.escrow_tables.proofs.changed_rows.row_changes.Given as goal

abbrev pub invariant-loop-i : goal.invariant-loop-i
invariant-loop-i l = record {
  reservations : map (λ c. c.reservation.now) l.changes.items ≡ map (λ r. r.now) (take l.i l.reservations);
  before : map (λ c. c.before.now) l.changes.items ≡ map (λ amounts. amounts.now) (take l.i l.before);
}
