-- Helps: how coefficients lie in their place. No contract of a public call uses it.
use Rattle.std.specs.Prelude.{◌≡◌, ℕ, ℤ, pos, ◌-◌, ◌≤◌, List, ◌++◌, length, take, replicate}
use Rattle.std.proofs.Common.{arith, ap, ◌∙◌, length-append}
use Rattle.std.proofs.lemmas.List.{length-replicate, length-take}
use Rattle.escrow_checks.specs.declared.coefficients.TheConstants.Coefficients.{MAX_LEN}

-- coefficients in their place: zeros fill the rest of it
abbrev pub padded : List ℤ → List ℤ
padded coeffs = coeffs ++ replicate (MAX_LEN - length coeffs) (pos 0)

-- a place has room for the most coefficients
length-padded : (coeffs : List ℤ) → length coeffs ≤ MAX_LEN → length (padded coeffs) ≡ MAX_LEN
length-padded coeffs short =
    omega (
      arith,
      length-append coeffs (replicate (MAX_LEN - length coeffs) (pos 0)),
      length-replicate {A = ℤ}
          (MAX_LEN - length coeffs) (pos 0),
    )

-- the number of the coefficients that a place holds
pub length-held : (values : List ℤ) (len : ℕ) → len ≤ MAX_LEN → length (take len values) ≤ MAX_LEN
    → values ≡ padded (take len values) → length (take len values) ≡ len
length-held values len small short whole =
    let long : length values ≡ MAX_LEN = ap length whole ∙ length-padded (take len values) short in
    omega (arith, length-take len values)
