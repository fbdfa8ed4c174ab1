-- Believed: what the coefficients of a check may be.
use Rattle.std.specs.Prelude.{ℤ, neg_ℤ, ◌≤◌, ◌≤ℤ◌, List, length, All}
use Rattle.escrow_checks.specs.declared.coefficients.TheConstants.Coefficients.{MAX, MAX_LEN}

-- a coefficient is a whole number of magnitude at most 10^12
abbrev pub IsCoefficient : ℤ → Type 0
IsCoefficient c = (neg_ℤ MAX ≤ℤ c) × (c ≤ℤ MAX)

-- a check has a coefficient for each of at most 10 columns
abbrev pub AreCoefficients : List ℤ → Type 0
AreCoefficients coeffs = (length coeffs ≤ MAX_LEN) × All IsCoefficient coeffs
