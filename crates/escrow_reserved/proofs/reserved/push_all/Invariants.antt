use Rattle.std.proofs.Common.{◌≡◌, ◌++◌, map, take}
use Rattle.escrow_reserved.proofs.reserved.push_all.Given as goal

abbrev pub invariant-loop-r : goal.invariant-loop-r
invariant-loop-r l = map (λ r. r.now) l.all.items ≡ map (λ r. r.now) l.initial.all.items ++ take l.r-index l.reservations
