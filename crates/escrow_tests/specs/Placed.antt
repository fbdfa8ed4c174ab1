-- Helps: what the tests of sums kept between calls know of a row's place.
use Rattle.std.specs.Prelude.{◌≡◌, ◌<◌, ℤ, Some, List, length}
use Rattle.escrow_num.specs.declared.value.RowName.{RowName}
use Rattle.escrow_bounds.specs.Counts.{Counts}
use Rattle.escrow_bounds.specs.Place.{Place}
use Rattle.escrow_bounds.specs.Bounds.{Bounds, place_at}

-- a row has a place, with a check, which counts these reservations
abbrev pub IsPlaced : Bounds → RowName → List (List ℤ) → Type 0
IsPlaced places row reservations =
    (place : Place) × (place_at places row ≡ Some place) × (0 < length place.checks) × Counts place reservations
