-- Believed: which reservations a place counts, and how a call changes that.
use Rattle.std.specs.Prelude.{◌≡◌, ℤ, Bool, false, not, nat_eq, Option, List, [], ◌∷◌, ◌++◌, length}
use Rattle.std.specs.List.{AllByRecursion}
use Rattle.std.specs.Option.{option_map_or}
use Rattle.escrow_num.specs.declared.session.End.{End}
use Rattle.escrow_checks.specs.Spread.{IsSpread}
use Rattle.escrow_checks.specs.declared.check.Check.{Check}
use Rattle.escrow_bounds.specs.Place.{Place, checks_of, Tracked}
use Rattle.escrow_bounds.specs.Moved.{amounts_after}

-- the spread of each form is that of these reservations, each a list of changes
abbrev pub HaveSums : List Tracked → List (List ℤ) → Type 0
HaveSums forms reservations =
    AllByRecursion (λ (form : Tracked). IsSpread form.check.coeffs reservations form.spread) forms

-- a place counts these reservations: its number and its spreads are theirs. Their order doesn't matter: a reservation
-- is added and removed at any place among them (TakesIn, GivesBack)
abbrev pub Counts : Place → List (List ℤ) → Type 0
Counts place reservations =
    (place.count ≡ length reservations) × HaveSums place.checks reservations × HaveSums place.columns reservations

-- whether there is a place that counts a reservation
abbrev pub is_counting : Option Place → Bool
is_counting place = option_map_or (λ (kept : Place). not (nat_eq kept.count 0)) place false

-- a new place has these amounts and checks, and counts nothing
pub record IsNew (amounts : List ℤ) (checks : List Check) (place : Place) : Type 0 where
  pub amounts_are : place.amounts ≡ amounts
  pub checks_are : checks_of place.checks ≡ checks
  pub counts : Counts place []

-- a place counts changes in addition to those that it counted
pub record TakesIn (changes : List ℤ) (old new : Place) : Type 0 where
  pub amounts : new.amounts ≡ old.amounts
  pub checks : checks_of new.checks ≡ checks_of old.checks
  pub counts : (before after : List (List ℤ)) → Counts old (before ++ after) → Counts new (before ++ changes ∷ after)

-- a place no longer counts changes, and if they are committed its amounts include them
pub record GivesBack (end : End) (changes : List ℤ) (old new : Place) : Type 0 where
  pub amounts : new.amounts ≡ amounts_after end old.amounts changes
  pub checks : checks_of new.checks ≡ checks_of old.checks
  pub counts : (before after : List (List ℤ)) → Counts old (before ++ changes ∷ after) → Counts new (before ++ after)
