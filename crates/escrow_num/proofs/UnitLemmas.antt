-- The units of a scale are exact.
use Rattle.std.proofs.Common.{◌≡◌, ◌↔◌, ℕ, zero, suc, ℤ, pos, negsuc, neg_ℤ, ◌+ℤ◌, ◌*ℤ◌, ◌*◌, ◌/◌, ◌%◌, ◌<◌, int_div, int_rem, Some, refl, ap, sym, subst, arith, ◌∙◌}
use Rattle.std.proofs.Math.Nat.{mul-mod_left, mul-div_cancel, zero-div, zero-mod}
use Rattle.std.proofs.lemmas.Int.{ints, quot-rem}
use Rattle.escrow_num.specs.Amount.{IsAmount}
use Rattle.escrow_num.specs.Decimal.{AreUnits, units_at}
use Rattle.escrow_num.specs.Scale.{unit_at}
use Rattle.escrow_num.proofs.DecimalLemmas.{units-some, units-told}
use Rattle.escrow_num.proofs.ScaleLemmas.{unit-least}

product-over : (n k : ℕ) → 0 < k → n * k / k ≡ n
product-over n k some = mul-div_cancel n some

negative-over : (m k : ℕ) → 0 < k → int_div (neg_ℤ (pos m)) (pos k) ≡ neg_ℤ (pos (m / k))
negative-over zero k some = let e : 0 / k ≡ 0 = zero-div k in rw e refl
negative-over (suc m) k some = refl

negative-left : (m k : ℕ) → 0 < k → int_rem (neg_ℤ (pos m)) (pos k) ≡ neg_ℤ (pos (m % k))
negative-left zero k some = let e : 0 % k ≡ 0 = zero-mod k in rw e refl
negative-left (suc m) k some = refl

-- units divided by the size of one
quotient : (u : ℤ) (k : ℕ) → 0 < k → int_div (u *ℤ pos k) (pos k) ≡ u
quotient (pos n) k some = ap (λ (m : ℕ). pos m) (product-over n k some)
quotient (negsuc n) k some = negative-over (suc n * k) k some ∙ ap (λ (m : ℕ). neg_ℤ (pos m)) (product-over (suc n) k some)

remainder : (u : ℤ) (k : ℕ) → 0 < k → int_rem (u *ℤ pos k) (pos k) ≡ pos 0
remainder (pos n) k some = ap (λ (m : ℕ). pos m) (mul-mod_left n k)
remainder (negsuc n) k some = negative-left (suc n * k) k some ∙ ap (λ (m : ℕ). neg_ℤ (pos m)) (mul-mod_left (suc n) k)

nothing-left : (z u r a : ℤ) (k : ℕ) → a *ℤ pos k +ℤ r ≡ z → r ≡ pos 0 → a ≡ u → u *ℤ pos k ≡ z
nothing-left z u r a k e none same = subst (λ (w : ℤ). w *ℤ pos k ≡ z) same (omega (arith, ints, e, none))

are-units : (scale : ℕ) (z u : ℤ) → units_at scale z ≡ Some u → AreUnits scale z u
are-units scale z u e =
    let told = units-told scale z u e in
    record {
      scaled = told.0;
      worth = nothing-left z u (int_rem z (pos (unit_at scale))) (int_div z (pos (unit_at scale))) (unit_at scale) (quot-rem z (pos (unit_at scale))) told.1.0 told.2;
      small = subst IsAmount told.2 told.1.1;
    }

have-units : (scale : ℕ) (z u : ℤ) → AreUnits scale z u → units_at scale z ≡ Some u
have-units scale z u are =
    let over : int_div z (pos (unit_at scale)) ≡ u = ap (λ (w : ℤ). int_div w (pos (unit_at scale))) (sym are.worth) ∙ quotient u (unit_at scale) (unit-least scale) in
    let left : int_rem z (pos (unit_at scale)) ≡ pos 0 = ap (λ (w : ℤ). int_rem w (pos (unit_at scale))) (sym are.worth) ∙ remainder u (unit_at scale) (unit-least scale) in
    units-some scale z are.scaled left (subst IsAmount (sym over) are.small) ∙ ap (λ (w : ℤ). Some w) over

-- a decimal has units exactly if they make up its millionths and are an amount
pub units-exact : (scale : ℕ) (z u : ℤ) → (units_at scale z ≡ Some u) ↔ AreUnits scale z u
units-exact scale z u = (are-units scale z u, have-units scale z u)
