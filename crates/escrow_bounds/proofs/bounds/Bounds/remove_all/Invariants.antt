use Rattle.std.proofs.Common.{List, ◌++◌, take, drop}
use Rattle.escrow_num.specs.declared.reservation.Reservation.{Reservation}
use Rattle.escrow_bounds.specs.Ended.{AreEnded}
use Rattle.escrow_bounds.specs.Held.{CountsAll, AllCount}
use Rattle.escrow_bounds.proofs.bounds.Bounds.remove_all.Given as goal

abbrev pub invariant-loop-r : goal.invariant-loop-r
invariant-loop-r l = record {
  counts : (rest : List Reservation) → CountsAll l.initial.self (l.reservations ++ rest) → CountsAll l.self (drop l.r-index l.reservations ++ rest);
  ends : AreEnded l.end (take l.r-index l.reservations) l.initial.self l.self;
  counting : AllCount l.initial.self → AllCount l.self;
}
