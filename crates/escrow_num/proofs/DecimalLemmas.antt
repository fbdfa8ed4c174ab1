-- Reading a decimal, as specs/Decimal.antt defines it.
use Rattle.std.proofs.Common.{◌≡◌, ℕ, ◌≤◌, ◌<◌, ◌&&◌, Bool, true, false, ℤ, pos, negsuc, neg_ℤ, ◌*ℤ◌, ◌-ℤ◌, ◌≤ℤ◌, int_div, int_rem, unsigned_abs, nat_le, FitsSigned, Option, Some, None, SomeIff, refl, ap, subst, sym, arith, ◌∙◌, w64}
use Rattle.std.specs.Bool.{Decides}
use Rattle.std.specs.Ordering.{int_eq}
use Rattle.std.proofs.lemmas.Bool.{leb-true, le-leb, cond-true, cond-false, cond_both}
use Rattle.std.proofs.lemmas.Bool.Decides.{Decides-and, Decides-int_eq}
use Rattle.std.specs.Int.{cast_signed, cast_unsigned, w128}
use Rattle.std.proofs.lemmas.Int.{ints, to_z-of_z, quot_fits, quot_is, rem_below}
use Rattle.escrow_num.specs.Amount.{IsAmount, is_amount}
use Rattle.escrow_num.specs.Decimal.{IsDecimal, units_at}
use Rattle.escrow_num.specs.Scale.{unit_at}
use Rattle.escrow_num.proofs.ScaleLemmas.{is_amount-Decides, neg-amount, neg-product, unit-least, unit-most, units-within}

-- an amount of units is a decimal within the limits
pub decimal-within : (z : ℤ) → IsDecimal z → (negsuc 999999999999998999999 ≤ℤ z) × (z ≤ℤ pos 999999999999999000000)
decimal-within z (scale, units, are) = subst (λ (w : ℤ). (negsuc 999999999999998999999 ≤ℤ w) × (w ≤ℤ pos 999999999999999000000)) are.worth (units-within units (unit_at scale) are.small (unit-most scale))

-- the negative of a decimal is a decimal
pub decimal-negated : (z : ℤ) → IsDecimal z → IsDecimal (neg_ℤ z)
decimal-negated z (scale, units, are) =
    (scale, neg_ℤ units, record { scaled = are.scaled; worth = neg-product units (unit_at scale) ∙ ap neg_ℤ are.worth; small = neg-amount units are.small })

-- a decimal fits into 128 bits
pub decimal-fits : (z : ℤ) → IsDecimal z → FitsSigned w128 z
decimal-fits z is = let bounds = decimal-within z is in omega (arith, ints, bounds.0, bounds.1)

unit-fits : (scale : ℕ) → FitsSigned w128 (pos (unit_at scale))
unit-fits scale = omega (arith, ints, unit-most scale)

pub quotient-fits : (z : ℤ) (scale : ℕ) → IsDecimal z → FitsSigned w128 (int_div z (pos (unit_at scale)))
quotient-fits z scale is = quot_fits w128 z (pos (unit_at scale)) (decimal-fits z is) (omega (arith, ints, unit-least scale))

-- a decimal may be divided by a unit
pub divides : (z u : ℤ) (scale : ℕ) → IsDecimal z → u ≡ pos (unit_at scale)
    → (0 < cast_unsigned w128 u) × FitsSigned w128 (int_div (cast_signed w128 (cast_unsigned w128 z)) (cast_signed w128 (cast_unsigned w128 u)))
divides z u scale is e =
    let z_fits = decimal-fits z is in
    let u_fits = unit-fits scale in
    rw (e, to_z-of_z w128 z z_fits, to_z-of_z w128 (pos (unit_at scale)) u_fits) (unit-least scale, quotient-fits z scale is)

-- the test for units of a scale
abbrev units-test : ℕ → ℤ → Bool
units-test scale z = nat_le scale 6 && (int_eq (int_rem z (pos (unit_at scale))) (pos 0) && is_amount (int_div z (pos (unit_at scale))))

units-tested : (scale : ℕ) (z : ℤ) → Decides (units-test scale z) ((scale ≤ 6) × ((int_rem z (pos (unit_at scale)) ≡ pos 0) × IsAmount (int_div z (pos (unit_at scale)))))
units-tested scale z =
    Decides-and (nat_le scale 6) (int_eq (int_rem z (pos (unit_at scale))) (pos 0) && is_amount (int_div z (pos (unit_at scale))))
    (leb-true scale 6, le-leb scale 6)
    (Decides-and (int_eq (int_rem z (pos (unit_at scale))) (pos 0)) (is_amount (int_div z (pos (unit_at scale)))) (Decides-int_eq (int_rem z (pos (unit_at scale))) (pos 0)) (is_amount-Decides (int_div z (pos (unit_at scale)))))

fails : (b : Bool) → ¬ (b ≡ true) → b ≡ false
fails true h = absurd (h refl)
fails false h = refl

-- a decimal has units at a scale if the remainder is zero and the quotient is an amount
pub units-some : (scale : ℕ) (z : ℤ) → scale ≤ 6 → int_rem z (pos (unit_at scale)) ≡ pos 0 → IsAmount (int_div z (pos (unit_at scale))) → units_at scale z ≡ Some (int_div z (pos (unit_at scale)))
unfolding units_at
units-some scale z scaled exact small = cond-true (units-test scale z) (Some (int_div z (pos (unit_at scale)))) None ((units-tested scale z).1 (scaled, (exact, small)))

-- it has none if the quotient is no amount
units-none : (scale : ℕ) (z : ℤ) → ¬ IsAmount (int_div z (pos (unit_at scale))) → units_at scale z ≡ None
unfolding units_at
units-none scale z large = cond-false (units-test scale z) (Some (int_div z (pos (unit_at scale)))) None (fails (units-test scale z) (λ e. large ((units-tested scale z).0 e).1.1))

-- what holds if there are units
pub units-told : (scale : ℕ) (z u : ℤ) → units_at scale z ≡ Some u → (scale ≤ 6) × ((int_rem z (pos (unit_at scale)) ≡ pos 0) × IsAmount (int_div z (pos (unit_at scale)))) × (int_div z (pos (unit_at scale)) ≡ u)
unfolding units_at
units-told scale z u e =
    cond_both (units-test scale z) (Some (int_div z (pos (unit_at scale)))) None (λ r. r ≡ Some u → (scale ≤ 6) × ((int_rem z (pos (unit_at scale)) ≡ pos 0) × IsAmount (int_div z (pos (unit_at scale)))) × (int_div z (pos (unit_at scale)) ≡ u))
    (λ t some. let told = (units-tested scale z).0 t in (told.0, told.1, cc some)) (λ _ none. absurd (cc none)) e

units-kept : (scale : ℕ) (z u : ℤ) (r : Option ℤ) → scale ≤ 6 → int_rem z (pos (unit_at scale)) ≡ pos 0 → u ≡ int_div z (pos (unit_at scale)) → SomeIff r (IsAmount u) u → r ≡ units_at scale z
units-kept scale z u None scaled exact e m = sym (units-none scale z (λ h. m (subst IsAmount (sym e) h)))
units-kept scale z u (Some x) scaled exact e m = ap (λ (w : ℤ). Some w) (m.1 ∙ e) ∙ sym (units-some scale z scaled exact (subst IsAmount e m.0))

-- the quotient that the code computes
quotient-is : (z u : ℤ) (scale : ℕ) → IsDecimal z → u ≡ pos (unit_at scale)
    → cast_signed w128 (cast_unsigned w128 (int_div (cast_signed w128 (cast_unsigned w128 z)) (cast_signed w128 (cast_unsigned w128 u)))) ≡ int_div z (pos (unit_at scale))
quotient-is z u scale is e =
    let z_fits = decimal-fits z is in
    let u_fits = unit-fits scale in
    rw e (quot_is w128 z (pos (unit_at scale)) z_fits u_fits (quotient-fits z scale is))

no-remainder : (r : ℤ) → unsigned_abs r < 1000000 → cast_unsigned w128 r ≡ 0 → r ≡ pos 0
no-remainder (pos n) small e = ap (λ (k : ℕ). pos k) e
no-remainder (negsuc n) small e = absurd (omega arith)

-- the remainder that the code computes, if it is zero
remainder-is : (z u : ℤ) (scale : ℕ) → IsDecimal z → u ≡ pos (unit_at scale)
    → cast_unsigned w128 (int_rem (cast_signed w128 (cast_unsigned w128 z)) (cast_signed w128 (cast_unsigned w128 u))) ≡ 0 → int_rem z (pos (unit_at scale)) ≡ pos 0
remainder-is z u scale is e none =
    let z_fits = decimal-fits z is in
    let u_fits = unit-fits scale in
    let h = rw (e, to_z-of_z w128 z z_fits, to_z-of_z w128 (pos (unit_at scale)) u_fits) at none in
    let below : unsigned_abs (int_rem z (pos (unit_at scale))) < unit_at scale = rem_below z (pos (unit_at scale)) (unit-least scale) in
    no-remainder (int_rem z (pos (unit_at scale))) (omega (arith, below, unit-most scale)) h

-- the units that the code keeps
pub units-of : (scale : ℕ) (z u v : ℤ) (r : Option ℤ) → IsDecimal z → u ≡ pos (unit_at scale) → scale ≤ 6
    → cast_unsigned w128 (int_rem (cast_signed w128 (cast_unsigned w128 z)) (cast_signed w128 (cast_unsigned w128 u))) ≡ 0
    → FitsSigned w64 (cast_signed w128 (cast_unsigned w128 (int_div (cast_signed w128 (cast_unsigned w128 z)) (cast_signed w128 (cast_unsigned w128 u)))))
    → v ≡ cast_signed w128 (cast_unsigned w128 (int_div (cast_signed w128 (cast_unsigned w128 z)) (cast_signed w128 (cast_unsigned w128 u))))
    → SomeIff r (IsAmount (cast_signed w64 (cast_unsigned w64 v))) (cast_signed w64 (cast_unsigned w64 v))
    → r ≡ units_at scale z
units-of scale z u v r is e scaled none fits v_is m =
    let v_fits = subst (FitsSigned w64) (sym v_is) fits in
    let kept = rw (to_z-of_z w64 v v_fits) at m in
    units-kept scale z v r scaled (remainder-is z u scale is e none) (v_is ∙ quotient-is z u scale is e) kept

-- there are no units if the quotient is too large
pub units-past : (scale : ℕ) (z u : ℤ) → IsDecimal z → u ≡ pos (unit_at scale)
    → ¬ FitsSigned w64 (cast_signed w128 (cast_unsigned w128 (int_div (cast_signed w128 (cast_unsigned w128 z)) (cast_signed w128 (cast_unsigned w128 u)))))
    → None ≡ units_at scale z
units-past scale z u is e large =
    sym (units-none scale z (λ small. large (subst (FitsSigned w64) (sym (quotient-is z u scale is e)) (omega (arith, ints, small.0, small.1)))))

-- the product of an amount and a unit fits into 128 bits
pub units-product : (units g a b : ℤ) (n scale : ℕ) → g ≡ units → IsAmount g → a ≡ cast_signed w64 (cast_unsigned w64 g) → b ≡ pos n → n ≡ unit_at scale
    → cast_signed w128 (cast_unsigned w128 (cast_signed w128 (cast_unsigned w128 a) *ℤ cast_signed w128 (cast_unsigned w128 b))) ≡ units *ℤ pos (unit_at scale)
units-product units g a b n scale eg small ea eb en =
    let g_fits : FitsSigned w64 g = omega (arith, ints, small.0, small.1) in
    let a_is : a ≡ units = ea ∙ to_z-of_z w64 g g_fits ∙ eg in
    let b_is : b ≡ pos (unit_at scale) = eb ∙ ap (λ (k : ℕ). pos k) en in
    let units_small = subst IsAmount eg small in
    let bounds = units-within units (unit_at scale) units_small (unit-most scale) in
    let units_fit : FitsSigned w128 units = omega (arith, ints, units_small.0, units_small.1) in
    let k_fits = unit-fits scale in
    let fits : FitsSigned w128 (units *ℤ pos (unit_at scale)) = omega (arith, ints, bounds.0, bounds.1) in
    rw (a_is, b_is, to_z-of_z w128 units units_fit, to_z-of_z w128 (pos (unit_at scale)) k_fits, to_z-of_z w128 (units *ℤ pos (unit_at scale)) fits) refl

-- zero minus a decimal fits into 128 bits
pub negated-fits : (z : ℤ) → IsDecimal z → FitsSigned w128 (pos 0 -ℤ cast_signed w128 (cast_unsigned w128 z))
negated-fits z is = let bounds = decimal-within z is in omega (arith, ints, bounds.0, bounds.1)

pub negated-is : (z : ℤ) → IsDecimal z → cast_signed w128 (cast_unsigned w128 (pos 0 -ℤ cast_signed w128 (cast_unsigned w128 z))) ≡ neg_ℤ z
negated-is z is = let bounds = decimal-within z is in omega (arith, ints, bounds.0, bounds.1)
