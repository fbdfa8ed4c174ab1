-- Helps: what private contracts say of META as it is read. No contract of a public call uses it.
use Rattle.std.specs.Prelude.{◌≡◌, ℤ, List, [], ◌∷◌, codes}
use Rattle.sqlite_value.specs.declared.value.Value.TheVariants.{Int, Text}
use Rattle.sqlite_value.specs.Order.{Row as SqlRow}
use Rattle.escrow_recover.specs.declared.format.Meta.{Meta}
use Rattle.escrow_recover.specs.declared.format.Meta.TheVariants.{Empty, Format, Other}

-- the row of META with the number of a format
abbrev pub format_row : ℤ → SqlRow
format_row number = Text (codes "format") ∷ Int number ∷ []

-- what is read of META is what its rows say: nothing if there is none, the number if there is one row of a format, and
-- otherwise something else
abbrev pub IsMetaOf : Meta → List SqlRow → Type 0
IsMetaOf Empty rows = rows ≡ []
IsMetaOf (Format number) rows = rows ≡ format_row number ∷ []
IsMetaOf Other rows = (rows ≡ [] → ⊥) × ((number : ℤ) → rows ≡ format_row number ∷ [] → ⊥)
