-- The limits of a condition, from the units that its tests compare with.
use Rattle.std.proofs.Common.{◌≡◌, ℕ, ℤ, List, ap₂, subst, pos, neg_ℤ, ◌+ℤ◌, ◌-ℤ◌, ◌≤ℤ◌, ◌^◌, int_le, Bool, true, false, ◌&&◌, cond, Option, Some, None, refl, ap, sym, arith, ◌∙◌}
use Rattle.std.proofs.Math.Bool.{and-false}
use Rattle.std.proofs.lemmas.Bool.{and_from, and_parts, cond-false, false≢true}
use Rattle.std.proofs.lemmas.Int.{fits_signed_from_abs, ints, to_z-of_z}
use Rattle.std.proofs.lemmas.Option.{cond_some}
use Rattle.std.specs.Int.{cast_signed, cast_unsigned, w128}
use Rattle.escrow_num.specs.Amount.{is_amount}
use Rattle.escrow_num.specs.declared.amount.TheConstants.Amount.{MAX}
use Rattle.escrow_num.specs.declared.span.Span.{Span}
use Rattle.escrow_statement.specs.declared.statement.Comparison.{Comparison}
use Rattle.escrow_statement.specs.declared.statement.Comparison.TheVariants.{Below, AtMost, Above, AtLeast, Equal}
use Rattle.escrow_statement.specs.declared.statement.Term.{Term}
use Rattle.escrow_statement.specs.declared.statement.Test.{Test}
use Rattle.escrow_statement.specs.declared.statement.Test.TheVariants.{Between, Compare}
use Rattle.escrow_checks.specs.Checks.{has_whole_limits, in_order, is_good_span, is_limit, is_whole, limits_of, number_in, span_of, units_in}
use Rattle.escrow_checks.specs.Condition.{total}
use Rattle.escrow_checks.specs.Parts.{is_near}
use Rattle.escrow_checks.proofs.PartsLemmas.{near_within}

-- an amount, or a number next to one, is near
amount_near : (n m : ℤ) → is_amount m ≡ true → (n -ℤ pos 1) ≤ℤ m → m ≤ℤ (n +ℤ pos 1) → is_near n ≡ true
amount_near n m e low high =
    let ends = and_parts (int_le (neg_ℤ MAX) m) (int_le m MAX) e in
    let above : neg_ℤ MAX ≤ℤ m = grind (arith, ints, ends.0) in
    let below : m ≤ℤ MAX = grind (arith, ints, ends.1) in
    let from : int_le (neg_ℤ (pos (10 ^ 15))) n ≡ true = grind (arith, ints, above, high) in
    let to : int_le n (pos (10 ^ 15)) ≡ true = grind (arith, ints, below, low) in
    and_from (int_le (neg_ℤ (pos (10 ^ 15))) n) (int_le n (pos (10 ^ 15))) from to

-- a test that is not true is false
not_true : (b : Bool) → (b ≡ true → ⊥) → b ≡ false
not_true true h = absurd (h refl)
not_true false h = refl

-- a number that is not near gives no good limit
near_limit : (n : ℤ) → is_near n ≡ false → is_limit (Some n) ≡ true → ⊥
near_limit n far e = false≢true (sym far ∙ amount_near n n e (omega (arith, ints)) (omega (arith, ints)))

good_parts : (span : Span) → is_good_span span ≡ true → (is_limit span.lo ≡ true) × (is_limit span.hi ≡ true)
good_parts span e = and_parts (is_limit span.lo) (is_limit span.hi) (and_parts (is_limit span.lo && is_limit span.hi) (in_order span.lo span.hi) e).0

far_span : (comparison : Comparison) (n : ℤ) → is_near n ≡ false → is_good_span (span_of comparison n) ≡ false
far_span Below n far =
    not_true (is_good_span (span_of Below n)) (λ e. false≢true (sym far ∙ amount_near n (n -ℤ pos 1) (good_parts (span_of Below n) e).1 (omega (arith, ints)) (omega (arith, ints))))
far_span AtMost n far = not_true (is_good_span (span_of AtMost n)) (λ e. near_limit n far (good_parts (span_of AtMost n) e).1)
far_span Above n far =
    not_true (is_good_span (span_of Above n)) (λ e. false≢true (sym far ∙ amount_near n (n +ℤ pos 1) (good_parts (span_of Above n) e).0 (omega (arith, ints)) (omega (arith, ints))))
far_span AtLeast n far = not_true (is_good_span (span_of AtLeast n)) (λ e. near_limit n far (good_parts (span_of AtLeast n) e).0)
far_span Equal n far = not_true (is_good_span (span_of Equal n)) (λ e. near_limit n far (good_parts (span_of Equal n) e).0)

-- ---- the limits of a test

-- the units of a number of millionths, if they are whole and near
abbrev pub units_found : ℕ → ℤ → Option ℤ
units_found scale z = cond (is_whole scale z && is_near (units_in scale z)) (Some (units_in scale z)) None

-- the limits that a test sets, if they are whole numbers of units and good
abbrev pub limits_found : ℕ → Test → ℤ → Option Span
limits_found scale test left = cond (has_whole_limits scale test left && is_good_span (limits_of scale test left)) (Some (limits_of scale test left)) None

-- a span, if it is good
abbrev pub if_good : Span → Option Span
if_good span = cond (is_good_span span) (Some span) None

-- if nothing is found, the test is false
pub no_item : {A : Type 0} (b : Bool) (x : A) → cond b (Some x) None ≡ None → b ≡ false
no_item true x e = absurd cc
no_item false x e = refl

-- without units there are no limits
comparison_fails : (comparison : Comparison) (n : ℤ) (whole : Bool) → (whole && is_near n) ≡ false → (whole && is_good_span (span_of comparison n)) ≡ false
comparison_fails comparison n false e = refl
comparison_fails comparison n true e = far_span comparison n e

pub compare_none : (scale : ℕ) (comparison : Comparison) (sum : List Term) (left z : ℤ) → z ≡ total number_in sum -ℤ left → units_found scale z ≡ None
    → limits_found scale (Compare comparison sum) left ≡ None
compare_none scale comparison sum left z is none =
    let number : ℤ = total number_in sum -ℤ left in
    let units : ℤ = units_in scale number in
    let none' : units_found scale number ≡ None = subst (λ n. units_found scale n ≡ None) is none in
    cond-false _ _ None (comparison_fails comparison units (is_whole scale number) (no_item _ units none'))

low_fails : (lo hi : ℤ) (whole whole' : Bool) → (whole && is_near lo) ≡ false → ((whole && whole') && is_good_span (record { lo = Some lo; hi = Some hi })) ≡ false
low_fails lo hi false whole' e = refl
low_fails lo hi true whole' e =
    let bad : is_good_span (record { lo = Some lo; hi = Some hi }) ≡ false = not_true _ (λ good. near_limit lo e (good_parts (record { lo = Some lo; hi = Some hi }) good).0) in
    ap (λ b. whole' && b) bad ∙ and-false whole'

high_fails : (lo hi : ℤ) (whole whole' : Bool) → (whole' && is_near hi) ≡ false → ((whole && whole') && is_good_span (record { lo = Some lo; hi = Some hi })) ≡ false
high_fails lo hi false whole' e = refl
high_fails lo hi true false e = refl
high_fails lo hi true true e = not_true _ (λ good. near_limit hi e (good_parts (record { lo = Some lo; hi = Some hi }) good).1)

pub low_none : (scale : ℕ) (low high left z : ℤ) → z ≡ low -ℤ left → units_found scale z ≡ None → limits_found scale (Between low high) left ≡ None
low_none scale low high left z is none =
    let none' : units_found scale (low -ℤ left) ≡ None = subst (λ n. units_found scale n ≡ None) is none in
    cond-false _ _ None (low_fails (units_in scale (low -ℤ left)) (units_in scale (high -ℤ left)) (is_whole scale (low -ℤ left)) (is_whole scale (high -ℤ left)) (no_item _ _ none'))

pub high_none : (scale : ℕ) (low high left z : ℤ) → z ≡ high -ℤ left → units_found scale z ≡ None → limits_found scale (Between low high) left ≡ None
high_none scale low high left z is none =
    let none' : units_found scale (high -ℤ left) ≡ None = subst (λ n. units_found scale n ≡ None) is none in
    cond-false _ _ None (high_fails (units_in scale (low -ℤ left)) (units_in scale (high -ℤ left)) (is_whole scale (low -ℤ left)) (is_whole scale (high -ℤ left)) (no_item _ _ none'))

-- if units are found, the number is whole, and they fit into 128 bits
pub found_units : (scale : ℕ) (z number n : ℤ) → z ≡ number → units_found scale z ≡ Some n
    → (is_whole scale number ≡ true) × (cast_signed w128 (cast_unsigned w128 n) ≡ units_in scale number)
found_units scale z number n is some =
    let known = cond_some (is_whole scale z && is_near (units_in scale z)) (units_in scale z) n some in
    let parts = and_parts (is_whole scale z) (is_near (units_in scale z)) known.0 in
    let small = near_within (units_in scale z) parts.1 in
    let kept : cast_signed w128 (cast_unsigned w128 (units_in scale z)) ≡ units_in scale z = to_z-of_z w128 (units_in scale z) (fits_signed_from_abs w128 (units_in scale z) (omega (arith, small))) in
    (subst (λ x. is_whole scale x ≡ true) is parts.0, ap (λ x. cast_signed w128 (cast_unsigned w128 x)) (sym known.1) ∙ kept ∙ ap (units_in scale) is)

pub compare_some : (scale : ℕ) (comparison : Comparison) (sum : List Term) (left z n : ℤ) → z ≡ total number_in sum -ℤ left → units_found scale z ≡ Some n
    → if_good (span_of comparison (cast_signed w128 (cast_unsigned w128 n))) ≡ limits_found scale (Compare comparison sum) left
compare_some scale comparison sum left z n is some =
    let number : ℤ = total number_in sum -ℤ left in
    let known = found_units scale z number n is some in
    let span : Span = span_of comparison (units_in scale number) in
    ap (λ m. if_good (span_of comparison m)) known.1 ∙ ap (λ b. cond (b && is_good_span span) (Some span) None) (sym known.0)

pub between_some : (scale : ℕ) (low high left z z' n m : ℤ) → z ≡ low -ℤ left → units_found scale z ≡ Some n → z' ≡ high -ℤ left → units_found scale z' ≡ Some m
    → if_good (record { lo = Some (cast_signed w128 (cast_unsigned w128 n)); hi = Some (cast_signed w128 (cast_unsigned w128 m)) }) ≡ limits_found scale (Between low high) left
between_some scale low high left z z' n m is some is' some' =
    let first = found_units scale z (low -ℤ left) n is some in
    let last = found_units scale z' (high -ℤ left) m is' some' in
    let span : Span = record { lo = Some (units_in scale (low -ℤ left)); hi = Some (units_in scale (high -ℤ left)) } in
    ap₂ (λ (x y : ℤ). if_good (record { lo = Some x; hi = Some y })) first.1 last.1
    ∙ ap₂ (λ (a b : Bool). cond ((a && b) && is_good_span span) (Some span) None) (sym first.0) (sym last.0)
