use Rattle.std.proofs.Common.{◌≡◌, ◌<◌, ◌++◌, length, map, take, drop}
use Rattle.std.specs.List.{AllByRecursion}
use Rattle.escrow_free.specs.Ranks.{renamed}
use Rattle.escrow_free.proofs.marks.rename.Given as goal

abbrev pub invariant-loop-item : goal.invariant-loop-item
invariant-loop-item l = record {
  named : AllByRecursion (λ x. x.0 < length l.ranks) (drop l.item-index l.items);
  so_far : take l.item-index l.items ++ map (renamed l.ranks) (drop l.item-index l.items) ≡ map (renamed l.ranks) l.fn.items;
}
