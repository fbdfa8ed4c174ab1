-- Coefficients multiplied and divided by a factor in 64 bits, and the loops that do so column by column.
use Rattle.std.proofs.Common.{◌≡◌, ℕ, ◌^◌, ◌<◌, ◌≤◌, true, ℤ, pos, neg_ℤ, ◌*ℤ◌, ◌≤ℤ◌, int_le, int_div, FitsSigned, refl, arith}
use Rattle.std.specs.Int.{cast_signed, cast_unsigned, w64}
use Rattle.std.specs.Int.RustNames.{unsigned_abs}
use Rattle.std.proofs.lemmas.Bool.{and_parts}
use Rattle.std.proofs.lemmas.Int.{fits_signed_from_abs, ints, quot_fits, to_z-of_z}
use Rattle.escrow_checks.specs.Checks.{is_coefficient}
use Rattle.escrow_checks.specs.Coefficients.{IsCoefficient}
use Rattle.escrow_checks.specs.declared.condition.TheConstants.{MAX_COEFFICIENT}
use Rattle.escrow_checks.proofs.Products.{product_within, within_abs}

-- the magnitude of a written coefficient
small_abs : (k : ℤ) → is_coefficient k ≡ true → unsigned_abs k ≤ 1000000
small_abs k e =
    let ends = and_parts (int_le (neg_ℤ MAX_COEFFICIENT) k) (int_le k MAX_COEFFICIENT) e in
    within_abs k 1000000 (grind (arith, ints, ends.0)) (grind (arith, ints, ends.1))

-- its magnitude after multiplication
pub scaled_abs : (k f : ℤ) → is_coefficient k ≡ true → unsigned_abs f ≤ 1000000 → unsigned_abs (k *ℤ f) ≤ 10 ^ 12
scaled_abs k f e small = product_within k f 1000000 1000000 (small_abs k e) small

-- the magnitude of a factor
pub factor_abs : (f : ℤ) (n : ℕ) → f ≡ pos n → f ≤ℤ pos 1000000 → unsigned_abs f ≤ 1000000
factor_abs f n is most = within_abs f 1000000 (omega (arith, ints, is)) most

-- the product fits into 64 bits
pub scaled_fits : (k f : ℤ) → is_coefficient k ≡ true → unsigned_abs f ≤ 1000000 → FitsSigned w64 (k *ℤ f)
scaled_fits k f e small = fits_signed_from_abs w64 (k *ℤ f) (omega (arith, scaled_abs k f e small))

pub small_in_64 : (k : ℤ) → unsigned_abs k ≤ 10 ^ 12 → cast_signed w64 (cast_unsigned w64 k) ≡ k
small_in_64 k small = to_z-of_z w64 k (fits_signed_from_abs w64 k (omega (arith, small)))

pub scaled_in_64 : (k f : ℤ) → is_coefficient k ≡ true → unsigned_abs f ≤ 1000000
    → cast_signed w64 (cast_unsigned w64 k) *ℤ cast_signed w64 (cast_unsigned w64 f) ≡ k *ℤ f
scaled_in_64 k f e small = rw (small_in_64 k (omega (arith, small_abs k e)), small_in_64 f (omega (arith, small))) refl

-- dividing a coefficient by a factor is exact in 64 bits
pub divides_in_64 : (k f : ℤ) (n : ℕ) → IsCoefficient k → f ≡ pos n → 0 < n → f ≤ℤ pos 1000000
    → (0 < cast_unsigned w64 f) × FitsSigned w64 (int_div (cast_signed w64 (cast_unsigned w64 k)) (cast_signed w64 (cast_unsigned w64 f)))
divides_in_64 k f n small is some most =
    let k_small : unsigned_abs k ≤ 10 ^ 12 = within_abs k (10 ^ 12) (omega (arith, ints, small.0)) (omega (arith, ints, small.1)) in
    let few : n ≤ 1000000 = omega (arith, ints, is, most) in
    let f_kept : cast_signed w64 (cast_unsigned w64 (pos n)) ≡ pos n = to_z-of_z w64 (pos n) (omega (arith, ints, few)) in
    rw (is, small_in_64 k k_small, f_kept) (some, quot_fits w64 k (pos n) (fits_signed_from_abs w64 k (omega (arith, k_small))) (omega (arith, ints, some)))
