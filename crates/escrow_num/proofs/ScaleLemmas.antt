-- The units of scales, and tests of amounts.
use Rattle.std.proofs.Common.{◌≡◌, ℕ, zero, suc, ◌-◌, ◌*◌, ◌≤◌, Bool, true, false, ℤ, pos, negsuc, neg_ℤ, ◌*ℤ◌, ◌≤ℤ◌, int_le, T, refl, arith}
use Rattle.std.specs.Bool.{Decides}
use Rattle.std.proofs.Math.Nat.{one-le-pow, pow-le-pow_right, mul-le-mul}
use Rattle.std.proofs.lemmas.Bool.Decides.{Decides-and}
use Rattle.std.proofs.lemmas.Int.{ints}
use Rattle.escrow_num.specs.Amount.{IsAmount, is_amount}
use Rattle.escrow_num.specs.Scale.{unit_at}

-- a unit is between one millionth and a million of them
pub unit-least : (scale : ℕ) → 1 ≤ unit_at scale
unfolding unit_at
unit-least scale = one-le-pow (6 - scale) 10 (omega arith)

pub unit-most : (scale : ℕ) → unit_at scale ≤ 1000000
unfolding unit_at
unit-most scale = pow-le-pow_right {n = 10} (omega arith) {i = 6 - scale} {j = 6} (omega arith)

-- the tests of order
true-holds : (b : Bool) → b ≡ true → T b
true-holds true e = tt
true-holds false e = absurd (cc)

holds-true : (b : Bool) → T b → b ≡ true
holds-true true t = refl
holds-true false t = absurd t

int_le-Decides : (a b : ℤ) → Decides (int_le a b) (a ≤ℤ b)
int_le-Decides a b = (λ e. record { le = true-holds (int_le a b) e }, λ h. holds-true (int_le a b) h.le)

pub is_amount-Decides : (z : ℤ) → Decides (is_amount z) (IsAmount z)
is_amount-Decides z = Decides-and (int_le (negsuc 999999999999998) z) (int_le z (pos 999999999999999)) (int_le-Decides (negsuc 999999999999998) z) (int_le-Decides z (pos 999999999999999))

-- an amount of units is within the limits of decimals
pub units-within : (units : ℤ) (k : ℕ) → IsAmount units → k ≤ 1000000
    → (negsuc 999999999999998999999 ≤ℤ (units *ℤ pos k)) × ((units *ℤ pos k) ≤ℤ pos 999999999999999000000)
units-within (pos n) k small most =
    let bound : n ≤ 999999999999999 = omega (arith, ints, small.1) in
    let product : n * k ≤ 999999999999999 * 1000000 = mul-le-mul bound most in
    (omega (arith, ints), omega (arith, ints))
units-within (negsuc n) k small most =
    let bound : suc n ≤ 999999999999999 = omega (arith, ints, small.0) in
    let product : suc n * k ≤ 999999999999999 * 1000000 = mul-le-mul bound most in
    (omega (arith, ints), omega (arith, ints))

-- the product with a negated number
pub neg-product : (units : ℤ) (k : ℕ) → neg_ℤ units *ℤ pos k ≡ neg_ℤ (units *ℤ pos k)
neg-product (pos zero) k = omega (arith, ints)
neg-product (pos (suc n)) k = refl
neg-product (negsuc n) k = omega (arith, ints)

-- the negative of an amount is an amount
pub neg-amount : (z : ℤ) → IsAmount z → IsAmount (neg_ℤ z)
neg-amount z small = (omega (arith, ints, small.1), omega (arith, ints, small.0))
