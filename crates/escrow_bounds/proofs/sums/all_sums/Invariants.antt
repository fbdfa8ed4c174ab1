use Rattle.std.proofs.Common.{◌≡◌, [], take}
use Rattle.escrow_bounds.specs.Counts.{HaveSums}
use Rattle.escrow_bounds.specs.Listed.{all_tracked, AreListed}
use Rattle.escrow_bounds.specs.Place.{checks_of}
use Rattle.escrow_bounds.proofs.sums.all_sums.Given as goal

abbrev pub invariant-loop-check : goal.invariant-loop-check
invariant-loop-check l = record {
  checks : checks_of (all_tracked l.list l.sums.items) ≡ take l.check l.list;
  listed : AreListed l.list l.sums.items;
  sums : HaveSums (all_tracked l.list l.sums.items) [];
}
