-- Believed: the form of a check, and amounts with changes added.
use Rattle.std.specs.Prelude.{ℤ, pos, ◌+ℤ◌, ◌*ℤ◌, ◌≤◌, List, [], ◌∷◌, length}

-- the sum of coefficient times amount, column by column
abbrev pub form : List ℤ → List ℤ → ℤ
form [] amounts = pos 0
form (c ∷ cs) [] = pos 0
form (c ∷ cs) (a ∷ rest) = (c *ℤ a) +ℤ form cs rest

-- a row has an amount for each coefficient
abbrev pub IsCovered : List ℤ → List ℤ → Type 0
IsCovered coeffs amounts = length coeffs ≤ length amounts

-- amounts with a list of changes added, column by column; a change that isn't listed is zero
abbrev pub changed : List ℤ → List ℤ → List ℤ
changed [] changes = []
changed (a ∷ rest) [] = a ∷ rest
changed (a ∷ rest) (c ∷ changes) = (a +ℤ c) ∷ changed rest changes

-- amounts with each of several lists of changes added
abbrev pub all_changed : List ℤ → List (List ℤ) → List ℤ
all_changed amounts [] = amounts
all_changed amounts (changes ∷ chosen) = all_changed (changed amounts changes) chosen
