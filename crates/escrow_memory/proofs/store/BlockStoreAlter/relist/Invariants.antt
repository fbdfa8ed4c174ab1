use Rattle.std.proofs.Common.{◌≡◌, take}
use Rattle.sqlite_trees.specs.Objects.{Relists}
use Rattle.escrow_memory.specs.Store.{block_view}
use Rattle.escrow_memory.proofs.store.BlockStoreAlter.relist.Given as goal

abbrev pub invariant-loop-change : goal.invariant-loop-change
invariant-loop-change l = record {
  done : Relists (block_view l.fn.self) (block_view l.self) (take l.change-index l.changes);
  base : l.self.base ≡ l.fn.self.base;
  marks : l.self.marks ≡ l.fn.self.marks;
}
