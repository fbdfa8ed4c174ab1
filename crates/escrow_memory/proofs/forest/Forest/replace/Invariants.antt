use Rattle.std.proofs.Common.{◌≡◌, ◌+◌, ◌-◌, vec_len}
use Rattle.escrow_memory.specs.Held.{AreAlike}
use Rattle.escrow_memory.specs.Store.{trees_of}
use Rattle.escrow_memory.proofs.forest.Forest.replace.Given as goal

abbrev pub invariant-loop-alloc : goal.invariant-loop-alloc
invariant-loop-alloc l = AreAlike (trees_of l.fn.self) (trees_of l.self) × (l.self.version ≡ l.fn.self.version)

abbrev pub decreases-loop-alloc : goal.decreases-loop-alloc
decreases-loop-alloc l = l.tree + 1 - vec_len l.self.trees
