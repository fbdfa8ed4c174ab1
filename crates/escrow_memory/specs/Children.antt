-- Believed: the rows of a branch, by its children.
use Rattle.std.specs.Prelude.{◌≡◌, ◌<◌, List, length, flat_map, All}
use Rattle.sqlite_value.specs.Order.{Row}
use Rattle.escrow_memory.specs.declared.child.Child.{Child}

-- the rows of a branch: those of each child, one after another
abbrev pub children_rows : {N : Type 0} → (N → List Row) → List (Child N) → List Row
children_rows rows = flat_map (λ child. rows child.node.value)

-- each child has as many entries as its count says, and none is empty
abbrev pub AreCounted : {N : Type 0} → (N → List Row) → List (Child N) → Type 0
AreCounted rows = All (λ child. (child.len ≡ length (rows child.node.value)) × (0 < child.len))
