-- Believed: the scale of a check, coefficients at a scale, and amounts in millionths.
use Rattle.std.specs.Prelude.{◌≡◌, ℕ, ℤ, pos, ◌-◌, ◌^◌, ◌*ℤ◌, max, int_div, if◌then◌else◌, List, [], ◌∷◌, length, All}
use Rattle.std.specs.Ordering.{int_eq}
use Rattle.escrow_num.specs.Scale.{IsScale, unit_at}

-- there is a scale for each column
abbrev pub AreScales : List (List ℕ) → List ℕ → Type 0
AreScales columns scales = (length scales ≡ length columns) × All IsScale scales

-- the scale of a form: the largest scale among the columns whose coefficient isn't zero
abbrev pub form_scale : List ℤ → List ℕ → ℕ
form_scale [] scales = 0
form_scale (k ∷ coeffs) [] = 0
form_scale (k ∷ coeffs) (s ∷ scales) =
    if int_eq k (pos 0) then form_scale coeffs scales else max s (form_scale coeffs scales)

-- how many units of scale c are in one unit of scale s, if s is at most c; else 1
unfoldable pub factor : ℕ → ℕ → ℕ
factor c s = 10 ^ (c - s)

-- the coefficients that a check at scale c keeps, from the written ones: each is multiplied by the factor of its
-- column's scale; one without a scale stays as it is
abbrev pub scaled_coeffs : ℕ → List ℤ → List ℕ → List ℤ
scaled_coeffs c [] scales = []
scaled_coeffs c (k ∷ coeffs) [] = k ∷ coeffs
scaled_coeffs c (k ∷ coeffs) (s ∷ scales) = (k *ℤ pos (factor c s)) ∷ scaled_coeffs c coeffs scales

-- the written coefficient, from the one that a check at scale c has for a column at scale s
abbrev pub written_coefficient : ℕ → ℕ → ℤ → ℤ
written_coefficient c s k = int_div k (pos (factor c s))

-- the written coefficients, from those that a check at scale c has, column by column
abbrev pub written_coeffs : ℕ → List ℤ → List ℕ → List ℤ
written_coeffs c [] scales = []
written_coeffs c (k ∷ coeffs) [] = k ∷ coeffs
written_coeffs c (k ∷ coeffs) (s ∷ scales) = written_coefficient c s k ∷ written_coeffs c coeffs scales

-- amounts, each in units of its column's scale, as millionths
abbrev pub in_millionths : List ℕ → List ℤ → List ℤ
in_millionths [] amounts = []
in_millionths (s ∷ scales) [] = []
in_millionths (s ∷ scales) (a ∷ amounts) = (a *ℤ pos (unit_at s)) ∷ in_millionths scales amounts
