-- Believed: places that count the open reservations.
use Rattle.std.specs.Prelude.{◌≡◌, ◌<◌, if◌then◌else◌, ℤ, Option, Some, None, List, [], ◌∷◌}
use Rattle.escrow_num.specs.declared.reservation.Reservation.{Reservation}
use Rattle.escrow_num.specs.declared.value.RowName.{RowName}
use Rattle.escrow_num.specs.Order.{same_row}
use Rattle.escrow_num.specs.Reservation.{deltas}
use Rattle.escrow_bounds.specs.Counts.{Counts}
use Rattle.escrow_bounds.specs.Place.{Place}
use Rattle.escrow_bounds.specs.Bounds.{Bounds, place_at}

-- the changes of the open reservations of a row, in their order
abbrev pub of_row : RowName → List Reservation → List (List ℤ)
of_row row [] = []
of_row row (r ∷ held) = if same_row row r.row then deltas r.changes ∷ of_row row held else of_row row held

-- a place counts exactly these reservations; if there is no place, there are none
abbrev pub CountsJust : Option Place → List (List ℤ) → Type 0
CountsJust None reservations = reservations ≡ []
CountsJust (Some place) reservations = Counts place reservations

-- each place counts exactly the open reservations of its row, and a row without a place has none
abbrev pub CountsAll : Bounds → List Reservation → Type 0
CountsAll places held = (row : RowName) → CountsJust (place_at places row) (of_row row held)

-- every place counts a reservation
abbrev pub AllCount : Bounds → Type 0
AllCount places = (row : RowName) (place : Place) → place_at places row ≡ Some place → 0 < place.count
