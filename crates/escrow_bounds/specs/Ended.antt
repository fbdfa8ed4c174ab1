-- Believed: which places remain after reservations have ended.
use Rattle.std.specs.Prelude.{◌≡◌, ℤ, Some, List}
use Rattle.escrow_num.specs.declared.reservation.Reservation.{Reservation}
use Rattle.escrow_num.specs.declared.session.End.{End}
use Rattle.escrow_num.specs.declared.value.RowName.{RowName}
use Rattle.escrow_bounds.specs.Held.{of_row}
use Rattle.escrow_bounds.specs.Place.{Place, checks_of}
use Rattle.escrow_bounds.specs.Moved.{amounts_after_all}
use Rattle.escrow_bounds.specs.Bounds.{Bounds, place_at}

-- a place after reservations with these changes have ended: the checks are the same, and the amounts include what was
-- committed
pub record HasEnded (end : End) (ended : List (List ℤ)) (old new : Place) : Type 0 where
  pub checks : checks_of new.checks ≡ checks_of old.checks
  pub amounts : new.amounts ≡ amounts_after_all end old.amounts ended

-- places after reservations have ended: each that exists existed before, and the ended reservations of its row have
-- ended in it
abbrev pub AreEnded : End → List Reservation → Bounds → Bounds → Type 0
AreEnded end ended old new =
    (row : RowName) (place : Place) → place_at new row ≡ Some place → (before : Place)
    × (place_at old row ≡ Some before) × HasEnded end (of_row row ended) before place
