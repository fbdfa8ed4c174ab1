-- Helps: the amounts that aren't zero, listed by their columns.
use Rattle.std.specs.Prelude.{◌≡◌, ℕ, ℤ, pos, ◌+ℤ◌, ◌*ℤ◌, ◌≤◌, List, length, slice_index_or}
use Rattle.std.specs.List.{fold}
use Rattle.escrow_checks.specs.Form.{form}
use Rattle.escrow_checks.specs.declared.coefficients.TheConstants.Coefficients.{MAX_LEN}

-- a sum plus the product of one column's coefficient and amount
abbrev pub with_column : List ℤ → List ℤ → ℤ → ℕ → ℤ
with_column coeffs amounts sum column =
    sum +ℤ (slice_index_or coeffs column (pos 0) *ℤ slice_index_or amounts column (pos 0))

-- each form of some amounts is the sum over these columns of all amounts
abbrev pub SumsTo : List ℤ → List ℕ → List ℤ → Type 0
SumsTo amounts columns some =
    (coeffs : List ℤ) → length coeffs ≤ MAX_LEN → fold (with_column coeffs amounts) (pos 0) columns ≡ form coeffs some

-- each form of the amounts is its sum over the columns that are listed
abbrev pub AreListed : List ℤ → List ℕ → Type 0
AreListed amounts columns = SumsTo amounts columns amounts
