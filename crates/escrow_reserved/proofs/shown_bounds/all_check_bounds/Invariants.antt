use Rattle.std.proofs.Common.{◌≡◌, Some, ℤ, List, length, map, take}
use Rattle.escrow_bounds.specs.Counts.{Counts}
use Rattle.escrow_bounds.specs.Place.{Place}
use Rattle.escrow_bounds.specs.Bounds.{place_at}
use Rattle.escrow_machine.specs.Bounds.{check_bounds}
use Rattle.escrow_reserved.proofs.shown_bounds.all_check_bounds.Given as goal

abbrev pub invariant-loop-i : goal.invariant-loop-i
invariant-loop-i l = record {
  many : length l.all ≡ l.i;
  shown : (place : Place) (reservations : List (List ℤ)) → place_at l.bounds l.name ≡ Some place → Counts place reservations → l.all ≡ map (check_bounds place.amounts reservations) (take l.i l.checks);
}
