use Rattle.std.specs.Prelude.{map, take}
use Rattle.escrow_reserved.specs.Reserved.{AreAmounts}
use Rattle.escrow_reserved.proofs.reserved.Reserved.amounts_of.Given as goal

abbrev pub invariant-loop-r : goal.invariant-loop-r
invariant-loop-r l = AreAmounts l.self.places (take l.r-index (map (λ r. r.now) l.reservations)) (map (λ amounts. amounts.now) l.all.items)
