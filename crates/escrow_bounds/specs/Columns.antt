-- Believed: the form of one column alone, as a check without limits.
use Rattle.std.specs.Prelude.{ℕ, zero, suc, ℤ, pos, None, List, [], ◌∷◌, ◌++◌, replicate, slice_set, codes}
use Rattle.escrow_checks.specs.declared.check.Check.{Check}

-- the coefficients of a column among several: 1 at its place, 0 at the others
abbrev pub unit_form : ℕ → ℕ → List ℤ
unit_form columns place = slice_set (replicate columns (pos 0)) place (pos 1)

-- a check that a row always meets, whose form is a column
abbrev pub column_check : ℕ → ℕ → Check
column_check columns place =
    record {
      name = codes "COLUMN";
      coeffs = unit_form columns place;
      scale = 0;
      span = record { lo = None; hi = None };
    }

-- those of the first columns
abbrev pub column_checks : ℕ → ℕ → List Check
column_checks columns zero = []
column_checks columns (suc n) = column_checks columns n ++ column_check columns n ∷ []
