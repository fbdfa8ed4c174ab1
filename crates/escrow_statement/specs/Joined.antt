-- Believed: texts joined with a comma and a blank between two.
use Rattle.std.specs.Prelude.{ℕ, List, codes}
use Rattle.std.specs.List.{join_by}

-- the texts in order, with a comma and a blank between two
abbrev pub joined : List (List ℕ) → List ℕ
joined texts = join_by (λ text. text) (codes ", ") texts
