-- Coefficients at a scale: the form of scaled ones in units, and of written ones in millionths.
use Rattle.std.proofs.Common.{◌≡◌, ℕ, zero, suc, get_or, ◌+◌, ◌-◌, ◌*◌, ◌^◌, ◌<◌, ◌≤◌, inl, inr, max, true, false, ℤ, pos, ◌+ℤ◌, ◌*ℤ◌, int_div, List, [], ◌∷◌, length, refl, ap, ap₂, sym, subst, arith, ◌∙◌}
use Rattle.std.specs.Prelude.{All}
use Rattle.std.specs.Ordering.{int_eq}
use Rattle.std.proofs.Math.IntN.{zero-*ℤ, *ℤ_comm, pos-*ℤ-pos}
use Rattle.std.proofs.Math.Nat.{one-le-pow}
use Rattle.std.proofs.lemmas.Bool.{cases_Bool, cond-true, cond-false}
use Rattle.std.proofs.lemmas.Bool.Decides.{Decides-int_eq}
use Rattle.std.proofs.lemmas.Int.{ints}
use Rattle.std.proofs.lemmas.Nat.{pow-add}
use Rattle.std.proofs.lemmas.List.Elements.{All-head, All-tail}
use Rattle.escrow_num.specs.Scale.{IsScale, unit_at}
use Rattle.escrow_num.proofs.ScaleLemmas.{unit-least}
use Rattle.escrow_checks.specs.Checks.{is_whole, units_in}
use Rattle.escrow_checks.specs.Form.{form}
use Rattle.escrow_checks.specs.Scales.{factor, form_scale, in_millionths, scaled_coeffs, written_coefficient, written_coeffs}
use Rattle.escrow_checks.proofs.LinearLemmas.{sum-*ℤ}
use Rattle.escrow_checks.proofs.Quotients.{*ℤ_assoc, quotient, remainder}

-- ---- the number of units of a finer scale in a unit of a coarser one

pub factor-least : (c s : ℕ) → 0 < factor c s
unfolding factor
factor-least c s = one-le-pow (c - s) 10 (omega arith)

factor-unit : (c s : ℕ) → s ≤ c → c ≤ 6 → factor c s * unit_at c ≡ unit_at s
unfolding factor unit_at
factor-unit c s h k =
    let places : (c - s) + (6 - c) ≡ 6 - s = omega arith in
    sym (pow-add 10 (c - s) (6 - c)) ∙ ap (λ n. 10 ^ n) places

-- ---- lengths

pub length-scaled_coeffs : (c : ℕ) (coeffs : List ℤ) (scales : List ℕ) → length (scaled_coeffs c coeffs scales) ≡ length coeffs
length-scaled_coeffs c [] scales = refl
length-scaled_coeffs c (k ∷ coeffs) [] = refl
length-scaled_coeffs c (k ∷ coeffs) (s ∷ scales) = omega (arith, length-scaled_coeffs c coeffs scales)

pub length-written_coeffs : (c : ℕ) (coeffs : List ℤ) (scales : List ℕ) → length (written_coeffs c coeffs scales) ≡ length coeffs
length-written_coeffs c [] scales = refl
length-written_coeffs c (k ∷ coeffs) [] = refl
length-written_coeffs c (k ∷ coeffs) (s ∷ scales) = omega (arith, length-written_coeffs c coeffs scales)

-- ---- at an index

pub scaled-at : (c : ℕ) (coeffs : List ℤ) (scales : List ℕ) (i : ℕ) (k d : ℤ) (s : ℕ) → i < length coeffs → i < length scales → k ≡ get_or coeffs i k → s ≡ get_or scales i s
    → k *ℤ pos (factor c s) ≡ get_or (scaled_coeffs c coeffs scales) i d
scaled-at c [] scales i k d s h h' is is' = absurd (omega arith)
scaled-at c (x ∷ coeffs) [] i k d s h h' is is' = absurd (omega arith)
scaled-at c (x ∷ coeffs) (t ∷ scales) zero k d s h h' is is' = ap₂ (λ (y : ℤ) (n : ℕ). y *ℤ pos (factor c n)) is is'
scaled-at c (x ∷ coeffs) (t ∷ scales) (suc i) k d s h h' is is' = scaled-at c coeffs scales i k d s (omega arith) (omega arith) is is'

pub written-at : (c : ℕ) (coeffs : List ℤ) (scales : List ℕ) (i : ℕ) (k d : ℤ) (s : ℕ) → i < length coeffs → i < length scales → k ≡ get_or coeffs i k → s ≡ get_or scales i s
    → written_coefficient c s k ≡ get_or (written_coeffs c coeffs scales) i d
written-at c [] scales i k d s h h' is is' = absurd (omega arith)
written-at c (x ∷ coeffs) [] i k d s h h' is is' = absurd (omega arith)
written-at c (x ∷ coeffs) (t ∷ scales) zero k d s h h' is is' = ap₂ (λ (y : ℤ) (n : ℕ). written_coefficient c n y) is is'
written-at c (x ∷ coeffs) (t ∷ scales) (suc i) k d s h h' is is' = written-at c coeffs scales i k d s (omega arith) (omega arith) is is'

-- there is no scale at the index
pub written-past : (c : ℕ) (coeffs : List ℤ) (scales : List ℕ) (i : ℕ) (k : ℤ) → i < length coeffs → length scales ≤ i → k ≡ get_or coeffs i k → k ≡ get_or (written_coeffs c coeffs scales) i k
written-past c [] scales i k h h' is = absurd (omega arith)
written-past c (x ∷ coeffs) [] i k h h' is = is
written-past c (x ∷ coeffs) (t ∷ scales) zero k h h' is = absurd (omega arith)
written-past c (x ∷ coeffs) (t ∷ scales) (suc i) k h h' is = written-past c coeffs scales i k (omega arith) (omega arith) is

-- ---- scaling back

pub written_are_given_back : (c : ℕ) (coeffs : List ℤ) (scales : List ℕ) → written_coeffs c (scaled_coeffs c coeffs scales) scales ≡ coeffs
written_are_given_back c [] scales = refl
written_are_given_back c (k ∷ coeffs) [] = refl
written_are_given_back c (k ∷ coeffs) (s ∷ scales) =
    ap₂ (λ (x : ℤ) (xs : List ℤ). x ∷ xs) (quotient k (factor c s) (factor-least c s)) (written_are_given_back c coeffs scales)

pub zero_written : (c s : ℕ) → written_coefficient c s (pos 0) ≡ pos 0
zero_written c s = ap (λ z. int_div z (pos (factor c s))) (sym (zero-*ℤ (pos (factor c s)))) ∙ quotient (pos 0) (factor c s) (factor-least c s)

pub units_are_whole : (scale : ℕ) (units : ℤ) → (is_whole scale (units *ℤ pos (unit_at scale)) ≡ true) × (units_in scale (units *ℤ pos (unit_at scale)) ≡ units)
units_are_whole scale units =
    ((Decides-int_eq _ (pos 0)).1 (remainder units (unit_at scale) (unit-least scale)), quotient units (unit_at scale) (unit-least scale))

-- ---- the scale of a form

-- the scale of the columns from one on; a column counts unless its coefficient is zero
pub form_scale-zero : (k : ℤ) (coeffs : List ℤ) (s : ℕ) (scales : List ℕ) → k ≡ pos 0 → form_scale (k ∷ coeffs) (s ∷ scales) ≡ form_scale coeffs scales
form_scale-zero k coeffs s scales e = cond-true (int_eq k (pos 0)) _ _ ((Decides-int_eq k (pos 0)).1 e)

pub form_scale-some : (k : ℤ) (coeffs : List ℤ) (s : ℕ) (scales : List ℕ) → int_eq k (pos 0) ≡ false → form_scale (k ∷ coeffs) (s ∷ scales) ≡ max s (form_scale coeffs scales)
form_scale-some k coeffs s scales e = cond-false (int_eq k (pos 0)) _ _ e

pub form_scale_is : (coeffs : List ℤ) (scales : List ℕ) → All IsScale scales → IsScale (form_scale coeffs scales)
form_scale_is [] scales all = omega arith
form_scale_is (k ∷ coeffs) [] all = omega arith
form_scale_is (k ∷ coeffs) (s ∷ scales) all =
    let first : s ≤ 6 = All-head IsScale s scales all in
    let rest : form_scale coeffs scales ≤ 6 = form_scale_is coeffs scales (All-tail IsScale s scales all) in
    elim (cases_Bool (int_eq k (pos 0))) [
      | inl e ↦ omega (arith, rest, form_scale-zero k coeffs s scales ((Decides-int_eq k (pos 0)).0 e))
      | inr e ↦ omega (arith, first, rest, form_scale-some k coeffs s scales e)
    ]

-- ---- the form

-- the product of a scaled coefficient and an amount, in millionths
term-scaled : (c s : ℕ) (k a : ℤ) → s ≤ c → c ≤ 6 → ((k *ℤ pos (factor c s)) *ℤ a) *ℤ pos (unit_at c) ≡ k *ℤ (a *ℤ pos (unit_at s))
term-scaled c s k a h most =
    let F : ℤ = pos (factor c s) in
    let u : ℤ = pos (unit_at c) in
    let whole : F *ℤ u ≡ pos (unit_at s) = pos-*ℤ-pos (factor c s) (unit_at c) ∙ ap (λ (n : ℕ). pos n) (factor-unit c s h most) in
    let turned : (F *ℤ a) *ℤ u ≡ a *ℤ pos (unit_at s) = ap (λ x. x *ℤ u) (*ℤ_comm F a) ∙ *ℤ_assoc a F u ∙ ap (λ x. a *ℤ x) whole in
    ap (λ x. x *ℤ u) (*ℤ_assoc k F a) ∙ *ℤ_assoc k (F *ℤ a) u ∙ ap (λ x. k *ℤ x) turned

-- the same for a coefficient of zero
term-zero : (c s : ℕ) (k a : ℤ) → k ≡ pos 0 → ((k *ℤ pos (factor c s)) *ℤ a) *ℤ pos (unit_at c) ≡ k *ℤ (a *ℤ pos (unit_at s))
term-zero c s k a e =
    let left : ((pos 0 *ℤ pos (factor c s)) *ℤ a) *ℤ pos (unit_at c) ≡ pos 0 =
    ap (λ x. (x *ℤ a) *ℤ pos (unit_at c)) (zero-*ℤ (pos (factor c s))) ∙ ap (λ x. x *ℤ pos (unit_at c)) (zero-*ℤ a) ∙ zero-*ℤ (pos (unit_at c)) in
    subst (λ x. ((x *ℤ pos (factor c s)) *ℤ a) *ℤ pos (unit_at c) ≡ x *ℤ (a *ℤ pos (unit_at s))) (sym e) (left ∙ sym (zero-*ℤ (a *ℤ pos (unit_at s))))

-- one more column
one_more : (p r whole rest q : ℤ) (u : ℕ) → p *ℤ pos u ≡ q → r *ℤ pos u ≡ rest → whole ≡ q +ℤ rest → (p +ℤ r) *ℤ pos u ≡ whole
one_more p r whole rest q u first others adds = omega (arith, ints, sum-*ℤ p r (pos u), first, others, adds)

form-within : (c : ℕ) (coeffs : List ℤ) (scales : List ℕ) (amounts : List ℤ) → c ≤ 6 → form_scale coeffs scales ≤ c → length scales ≡ length coeffs
    → form (scaled_coeffs c coeffs scales) amounts *ℤ pos (unit_at c) ≡ form coeffs (in_millionths scales amounts)
form-within c [] scales amounts most within same = zero-*ℤ (pos (unit_at c))
form-within c (k ∷ coeffs) [] amounts most within same = absurd (omega arith)
form-within c (k ∷ coeffs) (s ∷ scales) [] most within same = zero-*ℤ (pos (unit_at c))
form-within c (k ∷ coeffs) (s ∷ scales) (a ∷ amounts) most within same =
    elim (cases_Bool (int_eq k (pos 0))) [
      | inl e ↦
          let zero : k ≡ pos 0 = (Decides-int_eq k (pos 0)).0 e in
          let rest : form_scale coeffs scales ≤ c = omega (arith, within, form_scale-zero k coeffs s scales zero) in
          one_more _ _ _ _ _ (unit_at c) (term-zero c s k a zero) (form-within c coeffs scales amounts most rest (omega arith)) refl
      | inr e ↦
          let is : form_scale (k ∷ coeffs) (s ∷ scales) ≡ max s (form_scale coeffs scales) = form_scale-some k coeffs s scales e in
          let first : s ≤ c = omega (arith, within, is) in
          let rest : form_scale coeffs scales ≤ c = omega (arith, within, is) in
          one_more _ _ _ _ _ (unit_at c) (term-scaled c s k a first most) (form-within c coeffs scales amounts most rest (omega arith)) refl
    ]

-- the form of scaled coefficients, in millionths, is that of the written ones at amounts in millionths
pub form-in_millionths : (coeffs : List ℤ) (scales : List ℕ) (amounts : List ℤ) → All IsScale scales → length scales ≡ length coeffs
    → form (scaled_coeffs (form_scale coeffs scales) coeffs scales) amounts *ℤ pos (unit_at (form_scale coeffs scales)) ≡ form coeffs (in_millionths scales amounts)
form-in_millionths coeffs scales amounts all same =
    form-within (form_scale coeffs scales) coeffs scales amounts (form_scale_is coeffs scales all) (omega arith) same
