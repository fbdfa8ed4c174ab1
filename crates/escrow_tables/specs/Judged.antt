-- Believed: what rows break.
use Rattle.std.specs.Prelude.{ℤ, Option, None, List, [], ◌∷◌}
use Rattle.escrow_num.specs.Span.{first_of_two}
use Rattle.escrow_num.specs.declared.refusal.Violation.{Violation}
use Rattle.escrow_num.specs.declared.row.Row.{Row}
use Rattle.escrow_num.specs.declared.value.RowName.{RowName}

-- what a row breaks, given what the amounts of the row of a name break
abbrev pub by_amounts : (RowName → List ℤ → Option Violation) → Row → Option Violation
by_amounts violation row = violation row.name row.amounts

-- what rows break, given what each of them breaks: what the first one breaks, in order, that breaks something
abbrev pub first_violation : {R : Type 0} → (R → Option Violation) → List R → Option Violation
first_violation violation [] = None
first_violation violation (row ∷ rows) = first_of_two (violation row) (first_violation violation rows)
