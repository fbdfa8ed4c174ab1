-- Believed where sums are kept (`Counts` of escrow_bounds): the sums, by sign, of what open reservations add. The
-- extremes are computed from them, with no choice formed. The grant rule is defined without them.
use Rattle.std.specs.Prelude.{◌≡◌, ℤ, pos, ◌+ℤ◌, List, [], ◌∷◌, ◌++◌}
use Rattle.std.specs.Int.{int_min, int_max}
use Rattle.std.specs.List.{AllByRecursion}
use Rattle.escrow_checks.specs.Contribution.{IsContribution}
use Rattle.escrow_checks.specs.Form.{form}
use Rattle.escrow_checks.specs.declared.spread.Spread.{Spread}

-- how far reservations can lower the form at most: the sum of what each adds, if that is negative
abbrev pub falls : List ℤ → List (List ℤ) → ℤ
falls coeffs [] = pos 0
falls coeffs (changes ∷ reservations) = int_min (pos 0) (form coeffs changes) +ℤ falls coeffs reservations

-- how far reservations can raise the form at most: the sum of what each adds, if that is positive
abbrev pub rises : List ℤ → List (List ℤ) → ℤ
rises coeffs [] = pos 0
rises coeffs (changes ∷ reservations) = int_max (pos 0) (form coeffs changes) +ℤ rises coeffs reservations

-- what each reservation adds is within the bound of a contribution
abbrev pub AreContributions : List ℤ → List (List ℤ) → Type 0
AreContributions coeffs reservations = AllByRecursion (λ changes. IsContribution (form coeffs changes)) reservations

-- a spread is that of these reservations under these coefficients: it has their two sums, and what each adds is within
-- 10^28
abbrev pub IsSpread : List ℤ → List (List ℤ) → Spread → Type 0
IsSpread coeffs reservations spread =
    (spread.falls ≡ falls coeffs reservations) × (spread.rises ≡ rises coeffs reservations)
    × AreContributions coeffs reservations

-- a reservation of another row, wherever it is among the others, leaves a row's spread as it is
abbrev pub OtherRowsAddNothing : Type 0
OtherRowsAddNothing = (coeffs : List ℤ) (before after : List (List ℤ)) (spread : Spread)
    → IsSpread coeffs (before ++ after) spread → IsSpread coeffs (before ++ [] ∷ after) spread
