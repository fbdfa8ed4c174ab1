-- Believed: the places of rows.
use Rattle.std.specs.Prelude.{◌≡◌, false, Option, Some, List}
use Rattle.std.specs.Map.{lookup}
use Rattle.escrow_num.specs.Order.{same_row}
use Rattle.escrow_num.specs.declared.value.RowName.{RowName}
use Rattle.escrow_bounds.specs.Place.{Place}

-- places, each with the name of its row, in any order
abbrev pub Bounds : Type 0
Bounds = List (RowName × Place)

-- the place of a row, if it has one
abbrev pub place_at : Bounds → RowName → Option Place
place_at places row = lookup (same_row row) places

-- each other row has the place that it had, or still has none
abbrev pub OthersStay : RowName → Bounds → Bounds → Type 0
OthersStay row old new = (other : RowName) → same_row row other ≡ false → place_at new other ≡ place_at old other

-- if there was a place, there still is one, which follows from the old one by Step
abbrev pub Becomes : (Place → Place → Type 0) → Option Place → Option Place → Type 0
Becomes Step before after = (old : Place) → before ≡ Some old → (new : Place) × (after ≡ Some new) × Step old new
