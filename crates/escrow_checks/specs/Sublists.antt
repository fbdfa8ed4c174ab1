-- Believed: every choice of a list's items.
use Rattle.std.specs.Prelude.{List, [], ◌∷◌, ◌++◌, map}

-- every choice of a list's items, in their order: those without the first item, and those with it
abbrev pub sublists : {A : Type 0} → List A → List (List A)
sublists [] = [] ∷ []
sublists (r ∷ rest) = sublists rest ++ map (λ chosen. r ∷ chosen) (sublists rest)
