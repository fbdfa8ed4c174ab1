use Rattle.std.proofs.Common.{ℕ, ◌^◌, ◌<◌, ◌≤◌}
use Rattle.sqlite_trees.specs.Tree.{IsIndexShape}
use Rattle.escrow_memory.specs.Store.{block_view}
use Rattle.escrow_memory.proofs.store.BlockStoreStore.tree_count.Given as goal

abbrev pub invariant-loop-count : goal.invariant-loop-count
invariant-loop-count l = (l.count ≤ 2 ^ 32) × ((t : ℕ) → l.count ≤ t → t < 2 ^ 32 → ¬ IsIndexShape ((block_view l.self).shape t))

abbrev pub decreases-loop-count : goal.decreases-loop-count
decreases-loop-count l = l.count
