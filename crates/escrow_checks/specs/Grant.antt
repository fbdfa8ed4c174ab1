-- Believed: when a row meets a check, and the grant rule.
use Rattle.std.specs.Prelude.{ℤ, List, [], ◌∷◌, All, Option, None, option_map}
use Rattle.escrow_num.specs.Span.{Holds, first_broken_of, first_of_two}
use Rattle.escrow_num.specs.declared.refusal.Violation.{Violation}
use Rattle.escrow_checks.specs.declared.check.Check.{Check}
use Rattle.escrow_checks.specs.Form.{form, changed, all_changed}
use Rattle.escrow_checks.specs.Sublists.{sublists}
use Rattle.escrow_checks.specs.Extremes.{least, greatest}

-- a row's amounts meet a check: the form at them is within the check's limits
abbrev pub Meets : Check → List ℤ → Type 0
Meets check amounts = Holds check.span (form check.coeffs amounts)

-- a row meets a check whichever of the open reservations are applied
abbrev pub AlwaysMeets : Check → List ℤ → List (List ℤ) → Type 0
AlwaysMeets check amounts reservations =
    All (λ chosen. Meets check (all_changed amounts chosen)) (sublists reservations)

-- what a new reservation breaks of a check: the first limit that an extreme passes, over the choices of the open
-- reservations that contain the new one
abbrev pub broken_by : Check → List ℤ → List ℤ → List (List ℤ) → Option Violation
broken_by check amounts changes reservations =
    let with_new = changed amounts changes in
    option_map (λ limit. record
    { check = check.name; side = limit.0; worst = limit.1; limit = limit.2; scale = check.scale })
    (first_broken_of check.span (least check.coeffs with_new reservations)
    (greatest check.coeffs with_new reservations))

-- the grant rule: the first check, in the table's order, that a new reservation breaks; it is granted if there is none
abbrev pub broken : List Check → List ℤ → List ℤ → List (List ℤ) → Option Violation
broken [] amounts changes reservations = None
broken (check ∷ checks) amounts changes reservations =
    first_of_two (broken_by check amounts changes reservations) (broken checks amounts changes reservations)
