-- The checks of ranges have a coefficient for each column.
use Rattle.std.proofs.Common.{◌≡◌, ℕ, List, [], ◌∷◌, length, map}
use Rattle.std.specs.List.{AllByRecursion}
use Rattle.escrow_checks.specs.declared.check.Check.{Check}
use Rattle.escrow_checks.proofs.CoefficientsLemmas.{length-unit_of}
use Rattle.escrow_schema.specs.declared.column.Column.{Column}
use Rattle.escrow_schema.specs.Definition.{range_check}

-- a check has a coefficient for each of the columns
abbrev pub IsWhole : List (List ℕ) → Check → Type 0
IsWhole names check = length check.coeffs ≡ length names

-- the checks of ranges have one for each name
pub whole_ranges : (names : List (List ℕ)) (columns : List Column) → AllByRecursion (IsWhole names) (map (range_check names) columns)
whole_ranges names [] = tt
whole_ranges names (column ∷ columns) = (length-unit_of names column.name, whole_ranges names columns)
