use Rattle.std.proofs.Common.{◌≡◌, ◌++◌, map, take}
use Rattle.escrow_memory.specs.Slot.{slot_row}
use Rattle.escrow_memory.specs.Leaf.{leaf_rows}
use Rattle.escrow_memory.proofs.leaf.Leaf.with_all.Given as goal

abbrev pub invariant-loop-slot : goal.invariant-loop-slot
invariant-loop-slot l = leaf_rows l.leaf ≡ leaf_rows l.fn.self ++ map (slot_row l.bytes) (take l.slot-index l.slots)
