-- Products of a coefficient and an amount: their sums and bounds.
use Rattle.std.proofs.Common.{◌≡◌, ℕ, ◌*◌, ◌^◌, ◌≤◌, ℤ, pos, negsuc, ◌+ℤ◌, ◌*ℤ◌, ◌-ℤ◌, neg_ℤ, ◌≤ℤ◌, ap, ◌∙◌, arith, to_z, of_z, SFits}
use Rattle.std.specs.Int.RustNames.{unsigned_abs}
use Rattle.escrow_num.specs.Amount.{IsAmount}
use Rattle.escrow_checks.specs.Coefficients.{IsCoefficient}
use Rattle.escrow_checks.specs.Contribution.{IsProduct}
use Rattle.std.specs.Int.{w128}
use Rattle.std.proofs.lemmas.Int.{ints, unsigned_abs-mul, to_z-of_z, fits_signed_from_abs, fits_signed_mul}
use Rattle.std.proofs.lemmas.Nat.{mul-le}
use Rattle.std.proofs.Math.IntN.{ℤ_ind, +ℤ_one, -ℤ_one, suc_ℤ-*ℤ, pred_ℤ-*ℤ, zero-*ℤ}

-- a product with a sum is the sum of the products
pub *ℤ-up : (m k : ℤ) → (m +ℤ pos 1) *ℤ k ≡ (m *ℤ k) +ℤ k
*ℤ-up m k = ap (λ x. x *ℤ k) (+ℤ_one m) ∙ suc_ℤ-*ℤ m k

pub *ℤ-down : (m k : ℤ) → (m +ℤ negsuc 0) *ℤ k ≡ (m *ℤ k) -ℤ k
*ℤ-down m k = ap (λ x. x *ℤ k) (-ℤ_one m) ∙ pred_ℤ-*ℤ m k

pub *ℤ-sum : (a b c : ℤ) → a *ℤ (b +ℤ c) ≡ (a *ℤ b) +ℤ (a *ℤ c)
*ℤ-sum a b c = ℤ_ind (λ m. m *ℤ (b +ℤ c) ≡ (m *ℤ b) +ℤ (m *ℤ c))
    (omega (arith, ints, zero-*ℤ (b +ℤ c), zero-*ℤ b, zero-*ℤ c))
    (λ n h. omega (arith, ints, h, *ℤ-up (pos n) (b +ℤ c), *ℤ-up (pos n) b, *ℤ-up (pos n) c))
    (λ n h. omega (arith, ints, h, *ℤ-down (neg_ℤ (pos n)) (b +ℤ c), *ℤ-down (neg_ℤ (pos n)) b, *ℤ-down (neg_ℤ (pos n)) c))
    a

-- a magnitude bounds a number on both sides
pub abs_within : (z : ℤ) (n : ℕ) → unsigned_abs z ≤ n → (neg_ℤ (pos n) ≤ℤ z) × (z ≤ℤ pos n)
abs_within z n h = (grind (arith, ints), grind (arith, ints))

pub within_abs : (z : ℤ) (n : ℕ) → neg_ℤ (pos n) ≤ℤ z → z ≤ℤ pos n → unsigned_abs z ≤ n
within_abs z n h k = grind (arith, ints)

-- the product of two bounded numbers is bounded
pub product_within : (a b : ℤ) (m n : ℕ) → unsigned_abs a ≤ m → unsigned_abs b ≤ n → unsigned_abs (a *ℤ b) ≤ m * n
product_within a b m n h k = omega (arith, unsigned_abs-mul a b, mul-le _ _ _ _ h k)

-- a coefficient times an amount is bounded
pub product_bound : (a b : ℤ) → IsCoefficient a → IsAmount b → IsProduct (a *ℤ b)
product_bound a b h k = abs_within (a *ℤ b) (10 ^ 27) (product_within a b (10 ^ 12) (10 ^ 15) (within_abs a (10 ^ 12) (omega (arith, ints, h)) (omega (arith, ints, h))) (within_abs b (10 ^ 15) (omega (arith, ints, k)) (omega (arith, ints, k))))

-- 128 bits compute the same product
pub product_in_128 : (a b x y r : ℤ) → IsCoefficient a → IsAmount b → x ≡ a → y ≡ b
    → r ≡ to_z w128 (of_z w128 (to_z w128 (of_z w128 x) *ℤ to_z w128 (of_z w128 y))) → r ≡ a *ℤ b
product_in_128 a b x y r small fits e e' h =
    let size_a : unsigned_abs a ≤ (10 ^ 12) = within_abs a (10 ^ 12) (omega (arith, ints, small)) (omega (arith, ints, small)) in
    let size_b : unsigned_abs b ≤ 10 ^ 15 = within_abs b (10 ^ 15) (omega (arith, ints, fits)) (omega (arith, ints, fits)) in
    let fits_a : SFits w128 a = fits_signed_from_abs w128 a (omega arith) in
    let fits_b : SFits w128 b = fits_signed_from_abs w128 b (omega arith) in
    let fits_product : SFits w128 (a *ℤ b) = fits_signed_mul w128 a b (10 ^ 12) (10 ^ 15) size_a size_b (omega arith) in
    rw (e, e', to_z-of_z w128 a fits_a, to_z-of_z w128 b fits_b, to_z-of_z w128 (a *ℤ b) fits_product) at h
