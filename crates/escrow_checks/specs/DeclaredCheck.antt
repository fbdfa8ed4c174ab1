-- Believed: what is known of each check that the CHECKs of a table declare.
use Rattle.std.specs.Prelude.{◌≡◌, ℕ, ℤ, true, ◌||◌, List, length}
use Rattle.std.specs.Option.{is_some}
use Rattle.escrow_checks.specs.declared.check.Check.{Check}
use Rattle.escrow_checks.specs.Checks.{are_good_coefficients, is_good_span}
use Rattle.escrow_checks.specs.Scales.{form_scale, scaled_coeffs, written_coeffs}
use Rattle.escrow_checks.specs.WrittenName.{is_written_name}

-- the coefficients of a check as written, in units of the columns' own scales
abbrev pub written_of : Check → List ℕ → List ℤ
written_of check scales = written_coeffs check.scale check.coeffs scales

-- a check over columns of these names and scales, as CHECKs declare it: its coefficients, as written and as the check
-- keeps them, its scale, its limits and its name
pub record IsDeclared (columns : List (List ℕ)) (scales : List ℕ) (check : Check) : Type 0 where
  -- a coefficient for each column
  pub covers : length check.coeffs ≡ length columns
  -- as written, each is of magnitude at most 1,000,000, and not all are zero
  pub coefficients : are_good_coefficients (written_of check scales) ≡ true
  -- the check keeps these, scaled
  pub scaled : scaled_coeffs check.scale (written_of check scales) scales ≡ check.coeffs
  -- its scale is the largest of the columns in it
  pub scale : form_scale (written_of check scales) scales ≡ check.scale
  -- limits of at most 15 digits, in units of its scale, the low one not greater than the high one
  pub limits : is_good_span check.span ≡ true
  -- there is at least one limit
  pub limited : (is_some check.span.lo || is_some check.span.hi) ≡ true
  -- the name is one that a statement can write
  pub written : is_written_name check.name ≡ true
