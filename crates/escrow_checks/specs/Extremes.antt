-- Believed: the least and the greatest value of a form over every choice of the open reservations.
use Rattle.std.specs.Prelude.{ℤ, pos, List, [], ◌∷◌, map}
use Rattle.std.specs.Int.{int_min, int_max}
use Rattle.escrow_checks.specs.Form.{form, all_changed}
use Rattle.escrow_checks.specs.Sublists.{sublists}

-- the value of the form after each choice of the open reservations, each a list of changes; nothing is summed by sign
abbrev pub outcomes : List ℤ → List ℤ → List (List ℤ) → List ℤ
outcomes coeffs amounts reservations = map (λ chosen. form coeffs (all_changed amounts chosen)) (sublists reservations)

-- the smallest of numbers
abbrev pub smallest : List ℤ → ℤ
smallest [] = pos 0
smallest (x ∷ []) = x
smallest (x ∷ y ∷ rest) = int_min x (smallest (y ∷ rest))

-- the greatest of numbers
abbrev pub largest : List ℤ → ℤ
largest [] = pos 0
largest (x ∷ []) = x
largest (x ∷ y ∷ rest) = int_max x (largest (y ∷ rest))

-- the least value of the form, over every choice of the open reservations that are applied
abbrev pub least : List ℤ → List ℤ → List (List ℤ) → ℤ
least coeffs amounts reservations = smallest (outcomes coeffs amounts reservations)

-- the greatest value of the form, over every choice of the open reservations that are applied
abbrev pub greatest : List ℤ → List ℤ → List (List ℤ) → ℤ
greatest coeffs amounts reservations = largest (outcomes coeffs amounts reservations)
