use Rattle.std.proofs.Common.{◌≡◌, ◌++◌, map, take, drop}
use Rattle.sqlite_trees.specs.Listing.{objects_from}
use Rattle.escrow_memory.specs.Held.{headings, objects_of}
use Rattle.escrow_memory.specs.Trees.{all_held}
use Rattle.escrow_memory.proofs.store.BlockStoreAlter.objects.Given as goal

abbrev pub invariant-loop-at : goal.invariant-loop-at
invariant-loop-at l = l.rows.items ++ map (take 5) (objects_from l.at (drop l.at (headings (all_held l.trees)))) ≡ map (take 5) (objects_of (all_held l.trees))
