-- Believed: the index of a row's place among all places.
use Rattle.std.specs.Prelude.{◌≡◌, ℕ, Some, option_map, slice_get}
use Rattle.escrow_num.specs.declared.value.RowName.{RowName}
use Rattle.escrow_bounds.specs.Place.{Place}
use Rattle.escrow_bounds.specs.Bounds.{Bounds}

-- the place at an index is that of a row
abbrev pub IsAt : Bounds → RowName → ℕ → Type 0
IsAt places row index = option_map (λ (p : RowName × Place). p.0) (slice_get places index) ≡ Some row
