-- Believed: the text of a number of units of a scale.
use Rattle.std.specs.Prelude.{ℕ, zero, suc, ℤ, pos, negsuc, ◌+◌, ◌/◌, ◌%◌, List, [], ◌∷◌, ◌++◌, decimal}

-- a number without its last digits, of which `digits` says how many
abbrev pub before_last : ℕ → ℕ → ℕ
before_last zero n = n
before_last (suc digits) n = before_last digits (n / 10)

-- the last digits of a number, of which `digits` says how many
abbrev pub last_digits : ℕ → ℕ → List ℕ
last_digits zero n = []
last_digits (suc digits) n = last_digits digits (n / 10) ++ (48 + n % 10) ∷ []

-- digits after a point; no digits, no point
abbrev pub pointed : List ℕ → List ℕ
pointed [] = []
pointed (d ∷ ds) = 46 ∷ d ∷ ds

-- the text of a number of units of a scale: the whole part, then a point and as many digits as the scale has
abbrev pub magnitude_text : ℕ → ℕ → List ℕ
magnitude_text scale n = decimal (before_last scale n) ++ pointed (last_digits scale n)

-- the text of units of a scale: a minus if they are negative, even if the whole part is 0; then the whole part; then a
-- point and as many digits as the scale has, or nothing if that is 0
unfoldable pub scaled_text : ℕ → ℤ → List ℕ
scaled_text scale (pos n) = magnitude_text scale n
scaled_text scale (negsuc n) = 45 ∷ magnitude_text scale (suc n)
