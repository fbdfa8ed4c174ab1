-- Believed: lists in order.
use Rattle.std.specs.Prelude.{Bool, List, [], ◌∷◌, IsTrue}
use Rattle.std.specs.List.{AllByRecursion}

-- each item comes in order before every later one
abbrev pub IsAscending : {A : Type 0} → (A → A → Bool) → List A → Type 0
IsAscending before [] = Unit {0}
IsAscending before (x ∷ xs) = AllByRecursion (λ y. IsTrue (before x y)) xs × IsAscending before xs
