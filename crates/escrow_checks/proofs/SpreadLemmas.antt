-- The two sums of a spread with one reservation more or less, and their bounds.
use Rattle.std.proofs.Common.{◌≡◌, ◌<◌, ℤ, pos, ◌+ℤ◌, ◌-ℤ◌, List, [], ◌∷◌, ◌++◌, length, arith}
use Rattle.std.specs.Int.{int_min, int_max}
use Rattle.std.proofs.lemmas.Int.{ints, clamps}
use Rattle.std.proofs.lemmas.List.{append-nil}
use Rattle.escrow_checks.specs.Contribution.{IsContribution, IsFall, IsRise}
use Rattle.escrow_checks.specs.Form.{form}
use Rattle.escrow_checks.specs.Spread.{falls, rises, AreContributions, IsSpread}
use Rattle.escrow_checks.specs.declared.spread.Spread.{Spread}
use Rattle.escrow_checks.specs.declared.spread.TheConstants.Spread.{MAX_OPEN}
use Rattle.escrow_checks.proofs.FormLemmas.{form-none}

-- ---- the sums with one more reservation among others

falls-put : (coeffs : List ℤ) (before after : List (List ℤ)) (changes : List ℤ) → falls coeffs (before ++ changes ∷ after) ≡ falls coeffs (before ++ after) +ℤ int_min (pos 0) (form coeffs changes)
falls-put coeffs [] after changes = omega (arith, ints)
falls-put coeffs (first ∷ before) after changes = omega (arith, ints, falls-put coeffs before after changes)

rises-put : (coeffs : List ℤ) (before after : List (List ℤ)) (changes : List ℤ) → rises coeffs (before ++ changes ∷ after) ≡ rises coeffs (before ++ after) +ℤ int_max (pos 0) (form coeffs changes)
rises-put coeffs [] after changes = omega (arith, ints)
rises-put coeffs (first ∷ before) after changes = omega (arith, ints, rises-put coeffs before after changes)

contributions-put : (coeffs : List ℤ) (before after : List (List ℤ)) (changes : List ℤ) → AreContributions coeffs (before ++ after) → IsContribution (form coeffs changes) → AreContributions coeffs (before ++ changes ∷ after)
contributions-put coeffs [] after changes known within = (within, known)
contributions-put coeffs (first ∷ before) after changes known within = (known.0, contributions-put coeffs before after changes known.1 within)

contributions-left : (coeffs : List ℤ) (before after : List (List ℤ)) (changes : List ℤ) → AreContributions coeffs (before ++ changes ∷ after) → AreContributions coeffs (before ++ after)
contributions-left coeffs [] after changes known = known.1
contributions-left coeffs (first ∷ before) after changes known = (known.0, contributions-left coeffs before after changes known.1)

-- the sums with one more reservation at the end
pub falls-push : (coeffs : List ℤ) (reservations : List (List ℤ)) (changes : List ℤ) → falls coeffs (reservations ++ changes ∷ []) ≡ falls coeffs reservations +ℤ int_min (pos 0) (form coeffs changes)
falls-push coeffs reservations changes = rw append-nil at (falls-put coeffs reservations [] changes)

pub rises-push : (coeffs : List ℤ) (reservations : List (List ℤ)) (changes : List ℤ) → rises coeffs (reservations ++ changes ∷ []) ≡ rises coeffs reservations +ℤ int_max (pos 0) (form coeffs changes)
rises-push coeffs reservations changes = rw append-nil at (rises-put coeffs reservations [] changes)

-- ---- bounds of the sums

pub falls_within : (coeffs : List ℤ) (reservations : List (List ℤ)) → AreContributions coeffs reservations → IsFall (length reservations) (falls coeffs reservations)
falls_within coeffs [] known = (omega (arith, ints), omega (arith, ints))
falls_within coeffs (changes ∷ reservations) known =
    let rest = falls_within coeffs reservations known.1 in
    (omega (arith, ints, clamps, rest, known.0), omega (arith, ints, clamps, rest))

pub rises_within : (coeffs : List ℤ) (reservations : List (List ℤ)) → AreContributions coeffs reservations → IsRise (length reservations) (rises coeffs reservations)
rises_within coeffs [] known = (omega (arith, ints), omega (arith, ints))
rises_within coeffs (changes ∷ reservations) known =
    let rest = rises_within coeffs reservations known.1 in
    (omega (arith, ints, clamps, rest), omega (arith, ints, clamps, rest, known.0))

-- two numbers are the sums of reservations
abbrev pub HasSums : List ℤ → List (List ℤ) → ℤ → ℤ → Type 0
HasSums coeffs reservations low high = (low ≡ falls coeffs reservations) × (high ≡ rises coeffs reservations) × AreContributions coeffs reservations

-- ---- one more reservation, which contributes z

-- z is added to one of the sums
pub with_one : (coeffs : List ℤ) (before after : List (List ℤ)) (changes : List ℤ) (spread : Spread) (low high z : ℤ) → IsContribution z → z ≡ form coeffs changes
    → low ≡ spread.falls +ℤ int_min (pos 0) z → high ≡ spread.rises +ℤ int_max (pos 0) z → IsSpread coeffs (before ++ after) spread → HasSums coeffs (before ++ changes ∷ after) low high
with_one coeffs before after changes spread low high z within same is_low is_high known = (
  omega (arith, ints, clamps, falls-put coeffs before after changes, known.0),
  omega (arith, ints, clamps, rises-put coeffs before after changes, known.1),
  contributions-put coeffs before after changes known.2 (omega (arith, ints, within), omega (arith, ints, within)),
)

-- a spread with room for one more reservation
abbrev pub HasRoom : Spread → Type 0
HasRoom spread = (coeffs : List ℤ) × (reservations : List (List ℤ)) × IsSpread coeffs reservations spread × (length reservations < MAX_OPEN)

pub fall_more : (spread : Spread) (z : ℤ) → HasRoom spread → IsContribution z → IsFall MAX_OPEN (spread.falls +ℤ int_min (pos 0) z)
fall_more spread z room within =
    let known = falls_within room.0 room.1 room.2.2 in
    (omega (arith, ints, clamps, known, within, room.2.0, room.3), omega (arith, ints, clamps, known, room.2.0))

pub rise_more : (spread : Spread) (z : ℤ) → HasRoom spread → IsContribution z → IsRise MAX_OPEN (spread.rises +ℤ int_max (pos 0) z)
rise_more spread z room within =
    let known = rises_within room.0 room.1 room.2.2 in
    (omega (arith, ints, clamps, known, room.2.1), omega (arith, ints, clamps, known, within, room.2.1, room.3))

-- ---- one reservation less, which contributed z

pub without_one : (coeffs : List ℤ) (before after : List (List ℤ)) (changes : List ℤ) (spread : Spread) (low high z : ℤ) → z ≡ form coeffs changes
    → low ≡ spread.falls -ℤ int_min (pos 0) z → high ≡ spread.rises -ℤ int_max (pos 0) z → IsSpread coeffs (before ++ changes ∷ after) spread → HasSums coeffs (before ++ after) low high
without_one coeffs before after changes spread low high z same is_low is_high known = (
  omega (arith, ints, clamps, falls-put coeffs before after changes, known.0),
  omega (arith, ints, clamps, rises-put coeffs before after changes, known.1),
  contributions-left coeffs before after changes known.2,
)

-- a spread that counts a reservation which contributed z
abbrev pub HasOne : Spread → ℤ → Type 0
HasOne spread z = (coeffs : List ℤ) × (before : List (List ℤ)) × (changes : List ℤ) × (after : List (List ℤ)) × IsSpread coeffs (before ++ changes ∷ after) spread × (z ≡ form coeffs changes)

pub fall_less : (spread : Spread) (z : ℤ) → HasOne spread z → IsFall MAX_OPEN spread.falls → IsFall MAX_OPEN (spread.falls -ℤ int_min (pos 0) z)
fall_less spread z one known =
    let others = falls_within one.0 (one.1 ++ one.3) (contributions-left one.0 one.1 one.3 one.2 one.4.2) in
    (omega (arith, ints, clamps, known), omega (arith, ints, clamps, falls-put one.0 one.1 one.3 one.2, others, one.4.0, one.5))

pub rise_less : (spread : Spread) (z : ℤ) → HasOne spread z → IsRise MAX_OPEN spread.rises → IsRise MAX_OPEN (spread.rises -ℤ int_max (pos 0) z)
rise_less spread z one known =
    let others = rises_within one.0 (one.1 ++ one.3) (contributions-left one.0 one.1 one.3 one.2 one.4.2) in
    (omega (arith, ints, clamps, rises-put one.0 one.1 one.3 one.2, others, one.4.1, one.5), omega (arith, ints, clamps, known))

-- ---- a reservation that changes nothing adds nothing

pub adds_nothing : (coeffs : List ℤ) (before after : List (List ℤ)) (spread : Spread) → IsSpread coeffs (before ++ after) spread → IsSpread coeffs (before ++ [] ∷ after) spread
adds_nothing coeffs before after spread known = (
  omega (arith, ints, clamps, falls-put coeffs before after [], form-none coeffs, known.0),
  omega (arith, ints, clamps, rises-put coeffs before after [], form-none coeffs, known.1),
  contributions-put coeffs before after [] known.2 (omega (arith, ints, form-none coeffs), omega (arith, ints, form-none coeffs)),
)
