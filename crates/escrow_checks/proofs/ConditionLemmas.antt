-- The checks that CHECK constraints declare: they mean what is written, and have these properties.
use Rattle.std.proofs.Common.{◌≡◌, ℕ, ◌+◌, ◌≤◌, ◌↔◌, Bool, true, false, ◌&&◌, ◌||◌, inl, inr, cond, ℤ, pos, ◌-ℤ◌, ◌*ℤ◌, ◌≤ℤ◌, int_rem, List, [], ◌∷◌, ◌++◌, length, map, Option, Some, None, refl, ap, ◌∙◌, sym, subst, arith, length-append}
use Rattle.std.specs.Prelude.{All, nat_le, bytes_eq, option_map, option_and_then}
use Rattle.std.specs.Option.{is_some}
use Rattle.std.specs.List.{IsDistinct, flat_map}
use Rattle.std.proofs.Math.Bool.{and-false}
use Rattle.std.proofs.lemmas.Int.{ints}
use Rattle.std.proofs.lemmas.Bool.{and_from, and_parts}
use Rattle.std.proofs.lemmas.Bool.Decides.{Decides-int_eq, nat_tests}
use Rattle.std.proofs.lemmas.Option.{cond_some}
use Rattle.std.proofs.lemmas.List.{length-map}
use Rattle.std.proofs.lemmas.List.Elements.{All-nil, All-cons, All-head, All-tail, All-append}
use Rattle.escrow_num.specs.Span.{Holds}
use Rattle.escrow_num.specs.declared.span.Span.{Span}
use Rattle.escrow_num.specs.Scale.{unit_at}
use Rattle.escrow_num.proofs.ScaleLemmas.{unit-least}
use Rattle.escrow_statement.specs.declared.statement.Comparison.{Comparison}
use Rattle.escrow_statement.specs.declared.statement.Comparison.TheVariants.{Below, AtMost, Above, AtLeast, Equal}
use Rattle.escrow_statement.specs.declared.statement.CheckText.{CheckText}
use Rattle.escrow_statement.specs.declared.statement.Condition.{Condition}
use Rattle.escrow_statement.specs.declared.statement.Test.{Test}
use Rattle.escrow_statement.specs.declared.statement.Test.TheVariants.{Compare, Between}
use Rattle.escrow_checks.specs.declared.check.Check.{Check}
use Rattle.escrow_checks.specs.declared.condition.TheConstants.{MAX_CHECKS}
use Rattle.escrow_checks.specs.Form.{form}
use Rattle.escrow_checks.specs.Grant.{Meets}
use Rattle.escrow_checks.specs.Condition.{total, sum_at, Compares, Passes, MeetsCondition}
use Rattle.escrow_checks.specs.Checks.{coefficient_of, right_of, number_in, is_whole, units_in, span_of, limits_of, has_whole_limits, condition_limits, names_columns, are_good_coefficients, is_good_span, has_good_limits, check_name, check_of, checks_of_conditions, checks_from, checks_behind, checks_of}
use Rattle.escrow_checks.specs.DeclaredCheck.{IsDeclared}
use Rattle.escrow_checks.specs.WrittenName.{is_written_name}
use Rattle.escrow_checks.specs.Meaning.{MeanTheSame}
use Rattle.escrow_checks.specs.Laws.{StandBehind}
use Rattle.escrow_checks.specs.Scales.{AreScales, form_scale, in_millionths, scaled_coeffs, written_coeffs}
use Rattle.escrow_checks.proofs.LinearLemmas.{condition-form}
use Rattle.escrow_checks.proofs.Quotients.{Ordered, made_up, ordered}
use Rattle.escrow_checks.proofs.ScaledLemmas.{form-in_millionths, length-scaled_coeffs, written_are_given_back}

-- ---- one condition

-- the limits of a comparison with n admit f exactly if two numbers in the same order as f and n compare so
holds_as_compares : (comparison : Comparison) (f n a b : ℤ) → Ordered f n a b → Holds (span_of comparison n) f ↔ Compares comparison a b
holds_as_compares Below f n a b (inl o) = (λ h. o.1, λ h. (tt, omega (arith, ints, o.0)))
holds_as_compares Below f n a b (inr (inl o)) = (λ h. absurd (omega (arith, ints, h.1, o.0)), λ h. absurd (omega (arith, ints, h, o.1)))
holds_as_compares Below f n a b (inr (inr o)) = (λ h. absurd (omega (arith, ints, h.1, o.0)), λ h. absurd (omega (arith, ints, h, o.1)))
holds_as_compares AtMost f n a b (inl o) = (λ h. omega (arith, ints, o.1), λ h. (tt, omega (arith, ints, o.0)))
holds_as_compares AtMost f n a b (inr (inl o)) = (λ h. omega (arith, ints, o.1), λ h. (tt, omega (arith, ints, o.0)))
holds_as_compares AtMost f n a b (inr (inr o)) = (λ h. absurd (omega (arith, ints, h.1, o.0)), λ h. absurd (omega (arith, ints, h, o.1)))
holds_as_compares Above f n a b (inl o) = (λ h. absurd (omega (arith, ints, h.0, o.0)), λ h. absurd (omega (arith, ints, h, o.1)))
holds_as_compares Above f n a b (inr (inl o)) = (λ h. absurd (omega (arith, ints, h.0, o.0)), λ h. absurd (omega (arith, ints, h, o.1)))
holds_as_compares Above f n a b (inr (inr o)) = (λ h. o.1, λ h. (omega (arith, ints, o.0), tt))
holds_as_compares AtLeast f n a b (inl o) = (λ h. absurd (omega (arith, ints, h.0, o.0)), λ h. absurd (omega (arith, ints, h, o.1)))
holds_as_compares AtLeast f n a b (inr (inl o)) = (λ h. omega (arith, ints, o.1), λ h. (omega (arith, ints, o.0), tt))
holds_as_compares AtLeast f n a b (inr (inr o)) = (λ h. omega (arith, ints, o.1), λ h. (omega (arith, ints, o.0), tt))
holds_as_compares Equal f n a b (inl o) = (λ h. absurd (omega (arith, ints, h.0, o.0)), λ h. absurd (omega (arith, ints, h, o.1)))
holds_as_compares Equal f n a b (inr (inl o)) = (λ h. o.1, λ h. (omega (arith, ints, o.0), omega (arith, ints, o.0)))
holds_as_compares Equal f n a b (inr (inr o)) = (λ h. absurd (omega (arith, ints, h.1, o.0)), λ h. absurd (omega (arith, ints, h, o.1)))

-- limits from n to m admit f exactly if a number in the same orders lies between a and b
holds_as_between : (f n m z a b : ℤ) → Ordered f n z a → Ordered f m z b → Holds (record { lo = Some n; hi = Some m }) f ↔ ((a ≤ℤ z) × (z ≤ℤ b))
holds_as_between f n m z a b low high =
    let from = holds_as_compares AtLeast f n z a low in
    let to = holds_as_compares AtMost f m z b high in
    (λ h. (from.0 (h.0, tt), to.0 (tt, h.1)), λ h. ((from.1 h.0).0, (to.1 h.1).1))

-- a form and a limit, in units, are in the order of the two sides, in millionths
in_order_of : (scale : ℕ) (f z a b : ℤ) → is_whole scale z ≡ true → (f *ℤ pos (unit_at scale)) -ℤ z ≡ a -ℤ b → Ordered f (units_in scale z) a b
in_order_of scale f z a b whole e =
    let made : units_in scale z *ℤ pos (unit_at scale) ≡ z = made_up z (unit_at scale) ((Decides-int_eq (int_rem z (pos (unit_at scale))) (pos 0)).0 whole) in
    ordered f (units_in scale z) a b (unit_at scale) (unit-least scale) (omega (arith, ints, made, e))

-- the limits of a test, in whole units, admit a form exactly if the sum on its left side passes the test
holds_as_passes : (columns : List (List ℕ)) (amounts : List ℤ) (scale : ℕ) (test : Test) (f left numbers : ℤ) → has_whole_limits scale test numbers ≡ true
    → f *ℤ pos (unit_at scale) ≡ (left -ℤ numbers) -ℤ (sum_at columns amounts (right_of test) -ℤ total number_in (right_of test))
    → Holds (limits_of scale test numbers) f ↔ Passes columns amounts left test
holds_as_passes columns amounts scale (Compare comparison sum) f left numbers whole e =
    let limit : ℤ = total number_in sum -ℤ numbers in
    let right : ℤ = sum_at columns amounts sum in
    holds_as_compares comparison f (units_in scale limit) left right (in_order_of scale f limit left right whole (omega (arith, ints, e)))
holds_as_passes columns amounts scale (Between low high) f left numbers whole e =
    let both = and_parts (is_whole scale (low -ℤ numbers)) (is_whole scale (high -ℤ numbers)) whole in
    holds_as_between f (units_in scale (low -ℤ numbers)) (units_in scale (high -ℤ numbers)) left low high
    (in_order_of scale f (low -ℤ numbers) left low both.0 (omega (arith, ints, e)))
    (in_order_of scale f (high -ℤ numbers) left high both.1 (omega (arith, ints, e)))

-- the written coefficients of a condition
abbrev pub written_in : List (List ℕ) → Condition → List ℤ
written_in columns condition = map (coefficient_of condition) columns

abbrev pub scale_in : List (List ℕ) → List ℕ → Condition → ℕ
scale_in columns scales condition = form_scale (written_in columns condition) scales

-- the check of a condition, if it gives one
abbrev check_with : List (List ℕ) → List ℕ → List ℕ → Condition → Check
check_with columns scales name condition =
    let scale = scale_in columns scales condition in
    record { name = name; coeffs = scaled_coeffs scale (written_in columns condition) scales; scale = scale; span = condition_limits scale condition }

-- what holds if a condition gives a check
pub record Gives (columns : List (List ℕ)) (scales : List ℕ) (name : List ℕ) (condition : Condition) (check : Check) : Type 0 where
  pub named : names_columns columns condition ≡ true
  pub good : are_good_coefficients (written_in columns condition) ≡ true
  pub whole : has_whole_limits (scale_in columns scales condition) condition.test (total number_in condition.sum) ≡ true
  pub limits : is_good_span (condition_limits (scale_in columns scales condition) condition) ≡ true
  pub written : is_written_name name ≡ true
  pub is : check_with columns scales name condition ≡ check

pub gives : (columns : List (List ℕ)) (scales : List ℕ) (name : List ℕ) (condition : Condition) (check : Check) → check_of columns scales name condition ≡ Some check
    → Gives columns scales name condition check
gives columns scales name condition check e =
    let scale = scale_in columns scales condition in
    let named = names_columns columns condition in
    let good = are_good_coefficients (written_in columns condition) in
    let known = cond_some (named && good && has_good_limits scale condition && is_written_name name) _ check e in
    let first_three = and_parts (named && good && has_good_limits scale condition) (is_written_name name) known.0 in
    let first_two = and_parts (named && good) (has_good_limits scale condition) first_three.0 in
    let first = and_parts named good first_two.0 in
    let limits = and_parts (has_whole_limits scale condition.test (total number_in condition.sum)) (is_good_span (condition_limits scale condition)) first_two.1 in
    record { named = first.0; good = first.1; whole = limits.0; limits = limits.1; written = first_three.1; is = known.1 }

-- if all of that holds, the condition gives the check
pub check_of-found : (columns : List (List ℕ)) (scales : List ℕ) (name : List ℕ) (condition : Condition) (name' : List ℕ) (coeffs : List ℤ) (scale : ℕ) (span : Span)
    → names_columns columns condition ≡ true → are_good_coefficients (written_in columns condition) ≡ true → has_good_limits (scale_in columns scales condition) condition ≡ true → is_written_name name ≡ true
    → name ≡ name' → scaled_coeffs (scale_in columns scales condition) (written_in columns condition) scales ≡ coeffs → scale_in columns scales condition ≡ scale
    → condition_limits (scale_in columns scales condition) condition ≡ span
    → Some (record { name = name'; coeffs = coeffs; scale = scale; span = span }) ≡ check_of columns scales name condition
check_of-found columns scales name condition name' coeffs scale span named good limits written is_name are_coeffs is_scale is_span =
    let all : (names_columns columns condition && are_good_coefficients (written_in columns condition) && has_good_limits (scale_in columns scales condition) condition && is_written_name name) ≡ true =
    and_from _ _ (and_from _ _ (and_from _ _ named good) limits) written in
    let same = same_check _ name' _ coeffs _ scale _ span is_name are_coeffs is_scale is_span in
    sym (ap (λ b. cond b (Some (check_with columns scales name condition)) None) all ∙ ap (λ (c : Check). Some c) same)
  where
    made : List ℕ → List ℤ → ℕ → Span → Check
    made name coeffs scale span = record { name = name; coeffs = coeffs; scale = scale; span = span }

    same_check : (n m : List ℕ) (ks ls : List ℤ) (s t : ℕ) (x y : Span) → n ≡ m → ks ≡ ls → s ≡ t → x ≡ y → made n ks s x ≡ made m ls t y
    same_check n m ks ls s t x y a b c d = rw (a, b, c, d) refl

-- if its limits are not good, it gives none
pub check_of-none : (columns : List (List ℕ)) (scales : List ℕ) (name : List ℕ) (condition : Condition) → has_good_limits (scale_in columns scales condition) condition ≡ false
    → check_of columns scales name condition ≡ None
check_of-none columns scales name condition bad =
    let front : Bool = names_columns columns condition && are_good_coefficients (written_in columns condition) in
    ap (λ b. cond ((front && b) && is_written_name name) (Some (check_with columns scales name condition)) None) bad
    ∙ ap (λ b. cond (b && is_written_name name) (Some (check_with columns scales name condition)) None) (and-false front)

-- a row meets a check exactly if it meets the condition
check_means : (columns : List (List ℕ)) (scales : List ℕ) (amounts : List ℤ) (name : List ℕ) (condition : Condition) (check : Check) → IsDistinct bytes_eq columns → AreScales columns scales
    → check_of columns scales name condition ≡ Some check → Meets check amounts ↔ MeetsCondition columns (in_millionths scales amounts) condition
check_means columns scales amounts name condition check distinct are e =
    let known = gives columns scales name condition check e in
    let millionths = in_millionths scales amounts in
    let written = written_in columns condition in
    let scale = scale_in columns scales condition in
    let each : length scales ≡ length written = are.0 ∙ sym (length-map columns (coefficient_of condition)) in
    let P : Check → Type 0 = λ c. Meets c amounts ↔ MeetsCondition columns millionths condition in
    subst P known.is
    (holds_as_passes columns millionths scale condition.test (form (scaled_coeffs scale written scales) amounts) (sum_at columns millionths condition.sum) (total number_in condition.sum) known.whole
    (form-in_millionths written scales amounts are.1 each ∙ condition-form columns millionths condition distinct))

-- each test sets a limit
sets_a_limit : (scale : ℕ) (test : Test) (numbers : ℤ) → (is_some (limits_of scale test numbers).lo || is_some (limits_of scale test numbers).hi) ≡ true
sets_a_limit scale (Compare Below sum) numbers = refl
sets_a_limit scale (Compare AtMost sum) numbers = refl
sets_a_limit scale (Compare Above sum) numbers = refl
sets_a_limit scale (Compare AtLeast sum) numbers = refl
sets_a_limit scale (Compare Equal sum) numbers = refl
sets_a_limit scale (Between low high) numbers = refl

check_declared : (columns : List (List ℕ)) (scales : List ℕ) (name : List ℕ) (condition : Condition) (check : Check) → check_of columns scales name condition ≡ Some check
    → IsDeclared columns scales check
check_declared columns scales name condition check e =
    let known = gives columns scales name condition check e in
    let written = written_in columns condition in
    let scale = scale_in columns scales condition in
    let back : written_coeffs scale (scaled_coeffs scale written scales) scales ≡ written = written_are_given_back scale written scales in
    subst (λ c. IsDeclared columns scales c) known.is
    (record {
      covers = length-scaled_coeffs scale written scales ∙ length-map columns (coefficient_of condition);
      coefficients = ap are_good_coefficients back ∙ known.good;
      scaled = ap (λ (coeffs : List ℤ). scaled_coeffs scale coeffs scales) back;
      scale = ap (λ (coeffs : List ℤ). form_scale coeffs scales) back;
      limits = known.limits;
      limited = sets_a_limit scale condition.test (total number_in condition.sum);
      written = known.written;
    })

-- ---- the conditions of one CHECK, and of all CHECKs

-- a list of checks is found if the first check and the others are
pub unpack : (o : Option Check) (rest : Option (List Check)) (checks : List Check) → option_and_then (λ check. option_map (λ more. check ∷ more) rest) o ≡ Some checks
    → (check : Check) × (more : List Check) × (o ≡ Some check) × (rest ≡ Some more) × (check ∷ more ≡ checks)
unpack None rest checks e = absurd cc
unpack (Some check) None checks e = absurd cc
unpack (Some check) (Some more) checks e = (check, more, refl, refl, cc)

-- a list of checks is found if those of the first CHECK and of the others are
pub unpack_all : (o rest : Option (List Check)) (checks : List Check) → option_and_then (λ first. option_map (λ more. first ++ more) rest) o ≡ Some checks
    → (first : List Check) × (more : List Check) × (o ≡ Some first) × (rest ≡ Some more) × (first ++ more ≡ checks)
unpack_all None rest checks e = absurd cc
unpack_all (Some first) None checks e = absurd cc
unpack_all (Some first) (Some more) checks e = (first, more, refl, refl, cc)

-- a property of each check that a condition gives
abbrev OfEach : List (List ℕ) → List ℕ → (Check → Type 0) → Type 0
OfEach columns scales P = (name : List ℕ) (condition : Condition) (check : Check) → check_of columns scales name condition ≡ Some check → P check

pub each_in_text : (columns : List (List ℕ)) (scales : List ℕ) (P : Check → Type 0) → OfEach columns scales P
    → (name : Option (List ℕ)) (k n : ℕ) (conditions : List Condition) (checks : List Check) → checks_of_conditions columns scales name k n conditions ≡ Some checks
    → (length checks ≡ length conditions) × All P checks
each_in_text columns scales P each name k n [] checks e =
    let none : [] ≡ checks = cc in
    rw (← none) (refl, All-nil P)
each_in_text columns scales P each name k n (condition ∷ conditions) checks e =
    let parts = unpack (check_of columns scales (check_name name k n) condition) (checks_of_conditions columns scales name (k + 1) (n + 1) conditions) checks e in
    let rest = each_in_text columns scales P each name (k + 1) (n + 1) conditions parts.1 parts.3 in
    rw (← parts.4) (omega (arith, rest.0), All-cons P parts.0 parts.1 (each (check_name name k n) condition parts.0 parts.2) rest.1)

each_from : (columns : List (List ℕ)) (scales : List ℕ) (P : Check → Type 0) → OfEach columns scales P
    → (texts : List CheckText) (n : ℕ) (checks : List Check) → checks_from columns scales texts n ≡ Some checks
    → (length checks ≡ length (flat_map (λ text. text.conditions) texts)) × All P checks
each_from columns scales P each [] n checks e =
    let none : [] ≡ checks = cc in
    rw (← none) (refl, All-nil P)
each_from columns scales P each (text ∷ texts) n checks e =
    let parts = unpack_all (checks_of_conditions columns scales text.name 1 n text.conditions) (checks_from columns scales texts (n + length text.conditions)) checks e in
    let first = each_in_text columns scales P each text.name 1 n text.conditions parts.0 parts.2 in
    let rest = each_from columns scales P each texts (n + length text.conditions) parts.1 parts.3 in
    rw (← parts.4) (
      omega (arith, first.0, rest.0, length-append parts.0 parts.1, length-append text.conditions (flat_map (λ text. text.conditions) texts)),
      All-append P parts.0 parts.1 first.1 rest.1,
    )

-- if checks are found after declared ones, all together are at most the limit
pub within_behind : (columns : List (List ℕ)) (scales : List ℕ) (declared : List Check) (texts : List CheckText) (checks : List Check) → checks_behind columns scales declared texts ≡ Some checks
    → (more : List Check) × (checks_from columns scales texts (length declared + 1) ≡ Some more) × (declared ++ more ≡ checks) × (length checks ≤ MAX_CHECKS)
within_behind columns scales declared texts checks e = go (checks_from columns scales texts (length declared + 1)) e
  where
    go : (o : Option (List Check)) → option_and_then (λ more. cond (nat_le (length (declared ++ more)) MAX_CHECKS) (Some (declared ++ more)) None) o ≡ Some checks
        → (more : List Check) × (o ≡ Some more) × (declared ++ more ≡ checks) × (length checks ≤ MAX_CHECKS)
    go None e = absurd cc
    go (Some more) e =
        let known = cond_some (nat_le (length (declared ++ more)) MAX_CHECKS) (declared ++ more) checks e in
        (more, refl, known.1, subst (λ (cs : List Check). length cs ≤ MAX_CHECKS) known.1 (grind (arith, nat_tests, known.0)))

-- the same without declared checks
pub within_most : (columns : List (List ℕ)) (scales : List ℕ) (texts : List CheckText) (checks : List Check) → checks_of columns scales texts ≡ Some checks
    → (length checks ≤ MAX_CHECKS) × (checks_from columns scales texts 1 ≡ Some checks)
within_most columns scales texts checks e =
    let known = within_behind columns scales [] texts checks e in
    (known.3, known.1 ∙ ap (λ (cs : List Check). Some cs) known.2)

pub checks_whole : (columns : List (List ℕ)) (scales : List ℕ) (texts : List CheckText) (checks : List Check) → checks_of columns scales texts ≡ Some checks
    → (length checks ≡ length (flat_map (λ text. text.conditions) texts)) × (length checks ≤ MAX_CHECKS) × All (λ check. length check.coeffs ≡ length columns) checks
checks_whole columns scales texts checks e =
    let known = within_most columns scales texts checks e in
    let IsWhole : Check → Type 0 = λ check. length check.coeffs ≡ length columns in
    let whole = each_from columns scales IsWhole (λ name condition check given. (check_declared columns scales name condition check given).covers) texts 1 checks known.1 in
    (whole.0, known.0, whole.1)

pub checks_declared : (columns : List (List ℕ)) (scales : List ℕ) (texts : List CheckText) (checks : List Check) → checks_of columns scales texts ≡ Some checks
    → All (λ check. IsDeclared columns scales check) checks
checks_declared columns scales texts checks e =
    (each_from columns scales (λ check. IsDeclared columns scales check) (check_declared columns scales) texts 1 checks (within_most columns scales texts checks e).1).1

-- ---- checks and conditions mean the same

-- if a property holds for a joined list, it holds for its parts
all_left : (P : Check → Type 0) (xs ys : List Check) → All P (xs ++ ys) → All P xs
all_left P [] ys h = All-nil P
all_left P (x ∷ xs) ys h = All-cons P x xs (All-head P x (xs ++ ys) h) (all_left P xs ys (All-tail P x (xs ++ ys) h))

all_right : (P : Check → Type 0) (xs ys : List Check) → All P (xs ++ ys) → All P ys
all_right P [] ys h = h
all_right P (x ∷ xs) ys h = all_right P xs ys (All-tail P x (xs ++ ys) h)

-- a property of each check is equivalent to one of its condition
abbrev AsOne : List (List ℕ) → List ℕ → (Check → Type 0) → (Condition → Type 0) → Type 0
AsOne columns scales P Q = (name : List ℕ) (condition : Condition) (check : Check) → check_of columns scales name condition ≡ Some check → P check ↔ Q condition

conditions_mean : (columns : List (List ℕ)) (scales : List ℕ) (P : Check → Type 0) (Q : Condition → Type 0) → AsOne columns scales P Q
    → (name : Option (List ℕ)) (k n : ℕ) (conditions : List Condition) (checks : List Check) → checks_of_conditions columns scales name k n conditions ≡ Some checks
    → All P checks ↔ All Q conditions
conditions_mean columns scales P Q one name k n [] checks e =
    let none : [] ≡ checks = cc in
    rw (← none) (λ h. All-nil Q, λ h. All-nil P)
conditions_mean columns scales P Q one name k n (condition ∷ conditions) checks e =
    let parts = unpack (check_of columns scales (check_name name k n) condition) (checks_of_conditions columns scales name (k + 1) (n + 1) conditions) checks e in
    let check = parts.0 in
    let more = parts.1 in
    let first = one (check_name name k n) condition check parts.2 in
    let others = conditions_mean columns scales P Q one name (k + 1) (n + 1) conditions more parts.3 in
    rw (← parts.4) (
      λ h. All-cons Q condition conditions (first.0 (All-head P check more h)) (others.0 (All-tail P check more h)),
      λ h. All-cons P check more (first.1 (All-head Q condition conditions h)) (others.1 (All-tail Q condition conditions h)),
    )

-- a property of each condition of a CHECK
abbrev InText : (Condition → Type 0) → CheckText → Type 0
InText Q text = All Q text.conditions

texts_mean : (columns : List (List ℕ)) (scales : List ℕ) (P : Check → Type 0) (Q : Condition → Type 0) → AsOne columns scales P Q
    → (texts : List CheckText) (n : ℕ) (checks : List Check) → checks_from columns scales texts n ≡ Some checks
    → All P checks ↔ All (InText Q) texts
texts_mean columns scales P Q one [] n checks e =
    let none : [] ≡ checks = cc in
    rw (← none) (λ h. All-nil (InText Q), λ h. All-nil P)
texts_mean columns scales P Q one (text ∷ texts) n checks e =
    let parts = unpack_all (checks_of_conditions columns scales text.name 1 n text.conditions) (checks_from columns scales texts (n + length text.conditions)) checks e in
    let first = parts.0 in
    let more = parts.1 in
    let these = conditions_mean columns scales P Q one text.name 1 n text.conditions first parts.2 in
    let others = texts_mean columns scales P Q one texts (n + length text.conditions) more parts.3 in
    rw (← parts.4) (
      λ h. All-cons (InText Q) text texts (these.0 (all_left P first more h)) (others.0 (all_right P first more h)),
      λ h. All-append P first more (these.1 (All-head (InText Q) text texts h)) (others.1 (All-tail (InText Q) text texts h)),
    )

mean_from : (columns : List (List ℕ)) (scales : List ℕ) (texts : List CheckText) (n : ℕ) (checks : List Check) → checks_from columns scales texts n ≡ Some checks → MeanTheSame columns scales texts checks
mean_from columns scales texts n checks given = λ distinct are amounts same.
    texts_mean columns scales (λ check. Meets check amounts) (MeetsCondition columns (in_millionths scales amounts))
    (λ name condition check e. check_means columns scales amounts name condition check distinct are e)
    texts n checks given

pub mean_the_same : (columns : List (List ℕ)) (scales : List ℕ) (texts : List CheckText) (checks : List Check) → checks_of columns scales texts ≡ Some checks → MeanTheSame columns scales texts checks
mean_the_same columns scales texts checks given = mean_from columns scales texts 1 checks (within_most columns scales texts checks given).1

-- the checks that CHECKs add after declared ones
pub stand_behind : (columns : List (List ℕ)) (scales : List ℕ) (declared : List Check) (texts : List CheckText) (checks : List Check) → checks_behind columns scales declared texts ≡ Some checks
    → StandBehind columns scales declared texts checks
stand_behind columns scales declared texts checks e =
    let known = within_behind columns scales declared texts checks e in
    let each = each_from columns scales (λ check. IsDeclared columns scales check) (check_declared columns scales) texts (length declared + 1) known.0 known.1 in
    record {
      more = known.0;
      behind = sym known.2;
      few = known.3;
      whole = each.0;
      good = each.1;
      means = mean_from columns scales texts (length declared + 1) known.0 known.1;
    }
