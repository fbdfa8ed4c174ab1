-- Believed: the rows of a leaf.
use Rattle.std.specs.Prelude.{List, map}
use Rattle.sqlite_value.specs.Order.{Row}
use Rattle.escrow_memory.specs.declared.leaf.Leaf.{Leaf}
use Rattle.escrow_memory.specs.Slot.{slot_row}

-- the rows of a leaf: its records as they are read, in the order of its slots
abbrev pub leaf_rows : Leaf → List Row
leaf_rows leaf = map (slot_row leaf.bytes.items) leaf.slots.items
