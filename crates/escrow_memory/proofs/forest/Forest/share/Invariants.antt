use Rattle.std.proofs.Common.{◌≡◌, take}
use Rattle.escrow_memory.specs.Trees.{all_held}
use Rattle.escrow_memory.proofs.forest.Forest.share.Given as goal

abbrev pub invariant-loop-tree : goal.invariant-loop-tree
invariant-loop-tree l = all_held l.trees.items ≡ all_held (take l.tree-index l.self.trees.items)
