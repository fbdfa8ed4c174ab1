-- Believed: the place of an entry in the bytes of its leaf.
use Rattle.std.specs.Prelude.{ℕ, ◌≤◌, List, slice_range}
use Rattle.sqlite_value.specs.Order.{Row}
use Rattle.sqlite_record.specs.Record.{decode}
use Rattle.escrow_memory.specs.declared.slot.Slot.{Slot}

-- the row that is read from the bytes of a slot
abbrev pub slot_row : List ℕ → Slot → Row
slot_row bytes slot = decode (slice_range bytes slot.from slot.to)

-- the slot is within a list of this length
abbrev pub IsWithin : ℕ → Slot → Type 0
IsWithin len slot = (slot.from ≤ slot.to) × (slot.to ≤ len)
