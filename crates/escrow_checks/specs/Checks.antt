-- Believed: which checks the CHECKs of a table declare, by name, coefficients, scale and limits. The columns' names
-- come with their scales.
use Rattle.std.specs.Prelude.{ℕ, ℤ, pos, neg_ℤ, ◌+◌, ◌==◌, ◌+ℤ◌, ◌-ℤ◌, Bool, true, not, ◌&&◌, nat_le, int_le, int_div, int_rem, if◌then◌else◌, Option, Some, None, option_and_then, option_map, List, [], ◌∷◌, ◌++◌, length, map, codes, bytes_eq}
use Rattle.std.specs.List.{list_any, list_all, flat_map}
use Rattle.std.specs.Ordering.{int_eq}
use Rattle.std.specs.Fmt.{decimal}
use Rattle.escrow_num.specs.Amount.{is_amount}
use Rattle.escrow_num.specs.Scale.{unit_at}
use Rattle.escrow_num.specs.declared.span.Span.{Span}
use Rattle.escrow_statement.specs.declared.statement.Comparison.{Comparison}
use Rattle.escrow_statement.specs.declared.statement.Comparison.TheVariants.{Below, AtMost, Above, AtLeast, Equal}
use Rattle.escrow_statement.specs.declared.statement.CheckText.{CheckText}
use Rattle.escrow_statement.specs.declared.statement.Condition.{Condition}
use Rattle.escrow_statement.specs.declared.statement.Term.{Term}
use Rattle.escrow_statement.specs.declared.statement.Term.TheVariants as term
use Rattle.escrow_statement.specs.declared.statement.Test.{Test}
use Rattle.escrow_statement.specs.declared.statement.Test.TheVariants.{Compare, Between}
use Rattle.escrow_checks.specs.declared.check.Check.{Check}
use Rattle.escrow_checks.specs.declared.condition.TheConstants.{MAX_CHECKS, MAX_COEFFICIENT}
use Rattle.escrow_checks.specs.Condition.{total}
use Rattle.escrow_checks.specs.Scales.{form_scale, scaled_coeffs}
use Rattle.escrow_checks.specs.WrittenName.{is_written_name}

-- COEFFICIENTS

-- what a term adds to the coefficient of a column
abbrev pub coefficient_in : List ℕ → Term → ℤ
coefficient_in name (term.Number n) = pos 0
coefficient_in name (term.Column coefficient column) = if bytes_eq column name then coefficient else pos 0

-- the terms on the right of a condition: BETWEEN has its two numbers there, and no sum
abbrev pub right_of : Test → List Term
right_of (Compare comparison sum) = sum
right_of (Between low high) = []

-- a column's coefficient in a condition brought to one side: the sum of those on the left less the sum of those on the
-- right
abbrev pub coefficient_of : Condition → List ℕ → ℤ
coefficient_of condition name =
    total (coefficient_in name) condition.sum -ℤ total (coefficient_in name) (right_of condition.test)

-- the coefficients of one column: 1 at its place, 0 at the others
abbrev pub unit_of : List (List ℕ) → List ℕ → List ℤ
unit_of columns name = map (λ column. if bytes_eq column name then pos 1 else pos 0) columns

-- LIMITS

-- what a term adds to the numbers of a sum, in millionths
abbrev pub number_in : Term → ℤ
number_in (term.Number n) = n
number_in (term.Column coefficient column) = pos 0

-- a number of millionths is a whole number of units of a scale
abbrev pub is_whole : ℕ → ℤ → Bool
is_whole scale z = int_eq (int_rem z (pos (unit_at scale))) (pos 0)

-- how many units of a scale a number of millionths is
abbrev pub units_in : ℕ → ℤ → ℤ
units_in scale z = int_div z (pos (unit_at scale))

-- the limits that a comparison with n units sets; `<` and `>` move n by one unit
abbrev pub span_of : Comparison → ℤ → Span
span_of Below n = record { lo = None; hi = Some (n -ℤ pos 1) }
span_of AtMost n = record { lo = None; hi = Some n }
span_of Above n = record { lo = Some (n +ℤ pos 1); hi = None }
span_of AtLeast n = record { lo = Some n; hi = None }
span_of Equal n = record { lo = Some n; hi = Some n }

-- the limits that a test sets, in units of a scale. The numbers on its left add up to `left` millionths, which are
-- subtracted from each limit
abbrev pub limits_of : ℕ → Test → ℤ → Span
limits_of scale (Compare comparison sum) left = span_of comparison (units_in scale (total number_in sum -ℤ left))
limits_of scale (Between low high) left =
    record { lo = Some (units_in scale (low -ℤ left)); hi = Some (units_in scale (high -ℤ left)) }

-- the limits are whole numbers of units: none is rounded
abbrev pub has_whole_limits : ℕ → Test → ℤ → Bool
has_whole_limits scale (Compare comparison sum) left = is_whole scale (total number_in sum -ℤ left)
has_whole_limits scale (Between low high) left = is_whole scale (low -ℤ left) && is_whole scale (high -ℤ left)

-- the limits of a condition brought to one side, in units of a scale
abbrev pub condition_limits : ℕ → Condition → Span
condition_limits scale condition = limits_of scale condition.test (total number_in condition.sum)

-- RULES

-- the column that a term names, if it names one
abbrev pub columns_in : Term → List (List ℕ)
columns_in (term.Number n) = []
columns_in (term.Column coefficient column) = column ∷ []

-- each column that a condition names, whatever its coefficient, is one of these
abbrev pub names_columns : List (List ℕ) → Condition → Bool
names_columns columns condition =
    list_all (λ name. list_any (λ column. bytes_eq column name) columns)
    (flat_map columns_in (condition.sum ++ right_of condition.test))

-- a coefficient has a magnitude of at most 1,000,000
abbrev pub is_coefficient : ℤ → Bool
is_coefficient c = int_le (neg_ℤ MAX_COEFFICIENT) c && int_le c MAX_COEFFICIENT

-- all are such coefficients, and not all are zero
abbrev pub are_good_coefficients : List ℤ → Bool
are_good_coefficients coeffs = list_all is_coefficient coeffs && list_any (λ c. not (int_eq c (pos 0))) coeffs

-- a limit, in units, is an amount, even after it was moved; a missing limit passes
abbrev pub is_limit : Option ℤ → Bool
is_limit None = true
is_limit (Some z) = is_amount z

-- the low limit isn't greater than the high one
abbrev pub in_order : Option ℤ → Option ℤ → Bool
in_order (Some lo) (Some hi) = int_le lo hi
in_order (Some lo) None = true
in_order None hi = true

-- limits are good: each is an amount, and the low one isn't greater than the high one
abbrev pub is_good_span : Span → Bool
is_good_span span = is_limit span.lo && is_limit span.hi && in_order span.lo span.hi

-- a condition's limits are whole numbers of units of a scale, each of at most 15 digits, and in order
abbrev pub has_good_limits : ℕ → Condition → Bool
has_good_limits scale condition =
    has_whole_limits scale condition.test (total number_in condition.sum) && is_good_span
    (condition_limits scale condition)

-- NAMES

-- the name of a CHECK's k-th condition, the n-th of the table's: the CHECK's name, from the second on with _ and k
-- after it; if the CHECK has no name, CHECK_ and n
abbrev pub check_name : Option (List ℕ) → ℕ → ℕ → List ℕ
check_name None k n = codes "CHECK_" ++ decimal n
check_name (Some name) k n = if k == 1 then name else name ++ codes "_" ++ decimal k

-- CHECKS

-- the check of a condition, with this name. The condition must name RESERVABLE columns alone, with good coefficients
-- and limits, and a statement must be able to write the name. The check is in units of the scale of its coefficients,
-- which are scaled
abbrev pub check_of : List (List ℕ) → List ℕ → List ℕ → Condition → Option Check
check_of columns scales name condition =
    let written = map (coefficient_of condition) columns in
    let scale = form_scale written scales in
    if names_columns columns condition && are_good_coefficients written && has_good_limits scale condition &&
    is_written_name name
    then Some (record {
      name = name;
      coeffs = scaled_coeffs scale written scales;
      scale = scale;
      span = condition_limits scale condition;
    })
    else None

-- the checks of a CHECK's conditions, or nothing if one of them breaks a rule. The first condition is the k-th of the
-- CHECK and the n-th of the table's
abbrev pub checks_of_conditions : List (List ℕ) → List ℕ → Option (List ℕ) → ℕ → ℕ → List Condition
    → Option (List Check)
checks_of_conditions columns scales name k n [] = Some []
checks_of_conditions columns scales name k n (condition ∷ conditions) =
    option_and_then (λ check.
    option_map (λ checks. check ∷ checks) (checks_of_conditions columns scales name (k + 1) (n + 1) conditions))
    (check_of columns scales (check_name name k n) condition)

-- the checks of CHECKs, whose first condition is the n-th of the table's
abbrev pub checks_from : List (List ℕ) → List ℕ → List CheckText → ℕ → Option (List Check)
checks_from columns scales [] n = Some []
checks_from columns scales (text ∷ texts) n =
    option_and_then (λ first.
    option_map (λ others. first ++ others) (checks_from columns scales texts (n + length text.conditions)))
    (checks_of_conditions columns scales text.name 1 n text.conditions)

-- declared checks of a table, and after them those that CHECKs declare, in order: at most 32 in all
abbrev pub checks_behind : List (List ℕ) → List ℕ → List Check → List CheckText → Option (List Check)
checks_behind columns scales declared texts =
    option_and_then (λ more. let checks = declared ++ more in if nat_le (length checks) MAX_CHECKS then Some checks
    else None)
    (checks_from columns scales texts (length declared + 1))

-- the checks that the CHECKs of a table declare, in order: those after no declared checks
abbrev pub checks_of : List (List ℕ) → List ℕ → List CheckText → Option (List Check)
checks_of columns scales texts = checks_behind columns scales [] texts
