-- A declared check: its canonical text declares it again.
use Rattle.std.proofs.Common.{◌≡◌, ℕ, ℤ, pos, negsuc, ◌+◌, ◌+ℤ◌, ◌-ℤ◌, ◌≤◌, Bool, true, false, ◌&&◌, not, Option, Some, None, List, [], ◌∷◌, ◌++◌, length, map, refl, sym, subst, ap, ap₂, ◌∙◌, arith, inl, inr, bytes_eq}
use Rattle.std.specs.Prelude.{◌||◌, All, IfSome, cond, int_le, neg_ℤ, unsigned_abs}
use Rattle.std.specs.Option.{is_some}
use Rattle.std.specs.List.{AllByRecursion, flat_map, list_all, list_any}
use Rattle.std.specs.Ordering.{int_eq}
use Rattle.std.proofs.Math.IntN.{+ℤ_idl}
use Rattle.std.proofs.lemmas.Bool.{and_from, and_parts, cases_Bool, cond-true, false≢true, leb-true, or_parts}
use Rattle.std.proofs.lemmas.Bool.Decides.{Decides-int_eq, nat_tests}
use Rattle.std.proofs.lemmas.Int.{ints}
use Rattle.escrow_num.specs.Amount.{IsAmount, is_amount}
use Rattle.escrow_num.specs.Scale.{IsScale}
use Rattle.escrow_num.specs.declared.amount.TheConstants.Amount.{MAX}
use Rattle.escrow_num.specs.declared.span.Span.{Span}
use Rattle.escrow_statement.specs.declared.statement.Condition.{Condition}
use Rattle.escrow_statement.specs.declared.statement.Term.{Term}
use Rattle.escrow_statement.specs.declared.statement.Term.TheVariants as terms
use Rattle.escrow_checks.specs.declared.check.Check.{Check}
use Rattle.escrow_checks.specs.declared.condition.TheConstants.{MAX_COEFFICIENT}
use Rattle.escrow_checks.specs.Checks.{are_good_coefficients, check_of, checks_from, coefficient_in, coefficient_of, columns_in, condition_limits, has_good_limits, has_whole_limits, in_order, is_coefficient, is_good_span, is_limit, is_whole, limits_of, names_columns, number_in, right_of, units_in}
use Rattle.escrow_checks.specs.Condition.{total}
use Rattle.escrow_checks.specs.DeclaredCheck.{IsDeclared, written_of}
use Rattle.escrow_checks.specs.Scales.{form_scale, scaled_coeffs}
use Rattle.escrow_checks.specs.WrittenName.{is_written_name}
use Rattle.escrow_checks.proofs.ScaledLemmas.{form_scale_is, length-written_coeffs, units_are_whole}
use Rattle.escrow_schema.specs.Definition.{are_distinct}
use Rattle.escrow_schema.proofs.DistinctLemmas.{either_order, first_apart, same_name}
use Rattle.escrow_schema.proofs.RangeLemmas.{int_le_true}
use Rattle.escrow_schema.proofs.PrintTree.{check_tree, condition_tree, terms_tree, test_tree, units_tree}

-- ---- what is known of a check

-- its printed coefficients are small, and not all zero
abbrev pub IsSmall : ℤ → Type 0
IsSmall c = unsigned_abs c ≤ 1000000

small_from : (c : ℤ) → is_coefficient c ≡ true → IsSmall c
small_from (pos n) e = leb-true n 1000000 (and_parts (int_le (neg_ℤ MAX_COEFFICIENT) (pos n)) (int_le (pos n) MAX_COEFFICIENT) e).1
small_from (negsuc n) e = grind (arith, nat_tests)

small_all : (coeffs : List ℤ) → list_all is_coefficient coeffs ≡ true → AllByRecursion IsSmall coeffs
small_all [] all = tt
small_all (c ∷ coeffs) all = let parts = and_parts (is_coefficient c) (list_all is_coefficient coeffs) all in (small_from c parts.0, small_all coeffs parts.1)

pub small_each : (names : List (List ℕ)) (scales : List ℕ) (check : Check) → IsDeclared names scales check → AllByRecursion IsSmall (written_of check scales)
small_each names scales check h = small_all (written_of check scales) (and_parts _ _ h.coefficients).0

pub some_coefficient : (names : List (List ℕ)) (scales : List ℕ) (check : Check) → IsDeclared names scales check → list_any (λ c. not (int_eq c (pos 0))) (written_of check scales) ≡ true
some_coefficient names scales check h = (and_parts _ _ h.coefficients).1

-- there is one coefficient for each column
pub written_covers : (names : List (List ℕ)) (scales : List ℕ) (check : Check) → IsDeclared names scales check → length (written_of check scales) ≡ length names
written_covers names scales check h = length-written_coeffs check.scale check.coeffs scales ∙ h.covers

-- its scale is one
pub scale_is : (names : List (List ℕ)) (scales : List ℕ) (check : Check) → All IsScale scales → IsDeclared names scales check → IsScale check.scale
scale_is names scales check scaled h = subst IsScale h.scale (form_scale_is (written_of check scales) scales scaled)

-- its limits are amounts
abbrev pub AreAmounts : Option ℤ → Option ℤ → Type 0
AreAmounts lo hi = IfSome lo IsAmount × IfSome hi IsAmount

amount_from : (z : ℤ) → is_amount z ≡ true → IsAmount z
amount_from z e = let ends = and_parts (int_le (neg_ℤ MAX) z) (int_le z MAX) e in (int_le_true (neg_ℤ MAX) z ends.0, int_le_true z MAX ends.1)

limit_amount : (limit : Option ℤ) → is_limit limit ≡ true → IfSome limit IsAmount
limit_amount None e = tt
limit_amount (Some z) e = amount_from z e

pub amounts_of : (names : List (List ℕ)) (scales : List ℕ) (check : Check) → IsDeclared names scales check → AreAmounts check.span.lo check.span.hi
amounts_of names scales check h =
    let front = and_parts (is_limit check.span.lo && is_limit check.span.hi) (in_order check.span.lo check.span.hi) h.limits in
    let ends = and_parts (is_limit check.span.lo) (is_limit check.span.hi) front.0 in
    (limit_amount check.span.lo ends.0, limit_amount check.span.hi ends.1)

-- ---- the coefficients

-- a name that no column has occurs in no term
no_term : (name : List ℕ) (names : List (List ℕ)) (coeffs : List ℤ) → list_any (λ other. bytes_eq name other) names ≡ false → total (coefficient_in name) (terms_tree names coeffs) ≡ pos 0
no_term name [] coeffs none = refl
no_term name (first ∷ names) [] none = refl
no_term name (first ∷ names) (c ∷ coeffs) none =
    let parts = or_parts (bytes_eq name first) (list_any (λ other. bytes_eq name other) names) none in
    let apart : bytes_eq first name ≡ false = either_order first name ∙ parts.0 in
    let rest = no_term name names coeffs parts.1 in
    elim (cases_Bool (int_eq c (pos 0))) [
      | inl e ↦ rw e rest
      | inr e ↦ rw (e, apart, rest) refl
    ]

-- a term of one column adds nothing to the coefficients of others
others_stay : (name : List ℕ) (c : ℤ) (ts : List Term) (names : List (List ℕ)) → list_any (λ other. bytes_eq name other) names ≡ false
    → map (λ n. total (coefficient_in n) (terms.Column c name ∷ ts)) names ≡ map (λ n. total (coefficient_in n) ts) names
others_stay name c ts [] none = refl
others_stay name c ts (other ∷ names) none =
    let parts = or_parts (bytes_eq name other) (list_any (λ other. bytes_eq name other) names) none in
    rw (parts.0, +ℤ_idl (total (coefficient_in other) ts)) (ap (λ (cs : List ℤ). total (coefficient_in other) ts ∷ cs) (others_stay name c ts names parts.1))

-- if the names are distinct, the terms add up to the coefficients
terms_back : (names : List (List ℕ)) (coeffs : List ℤ) → are_distinct names ≡ true → length coeffs ≡ length names → map (λ n. total (coefficient_in n) (terms_tree names coeffs)) names ≡ coeffs
terms_back [] [] apart same = refl
terms_back [] (c ∷ coeffs) apart same = absurd (omega arith)
terms_back (name ∷ names) [] apart same = absurd (omega arith)
terms_back (name ∷ names) (c ∷ coeffs) apart same =
    let parts = first_apart name names apart in
    let none = no_term name names coeffs parts.0 in
    let rest = terms_back names coeffs parts.1 (omega arith) in
    let others = terms_tree names coeffs in
    elim (cases_Bool (int_eq c (pos 0))) [
      | inl e ↦
          let tree : terms_tree (name ∷ names) (c ∷ coeffs) ≡ others = rw e refl in
          sums_of names name tree ∙ ap₂ (λ (x : ℤ) (xs : List ℤ). x ∷ xs) (none ∙ sym ((Decides-int_eq c (pos 0)).0 e)) rest
      | inr e ↦
          let tree : terms_tree (name ∷ names) (c ∷ coeffs) ≡ terms.Column c name ∷ others = rw e refl in
          let own : total (coefficient_in name) (terms.Column c name ∷ others) ≡ c = rw (same_name name, none) (omega (arith, ints)) in
          sums_of names name tree ∙ ap₂ (λ (x : ℤ) (xs : List ℤ). x ∷ xs) own (others_stay name c others names parts.0 ∙ rest)
    ]
  where
    sums_of : (names : List (List ℕ)) (name : List ℕ) {ts us : List Term} → ts ≡ us
        → map (λ n. total (coefficient_in n) ts) (name ∷ names) ≡ map (λ n. total (coefficient_in n) us) (name ∷ names)
    sums_of names name e = ap (λ (ts : List Term). map (λ n. total (coefficient_in n) ts) (name ∷ names)) e

-- no column occurs on the right
none_right : (scale : ℕ) (lo hi : Option ℤ) (name : List ℕ) → total (coefficient_in name) (right_of (test_tree scale lo hi)) ≡ pos 0
none_right scale (Some lo) (Some hi) name = elim (cases_Bool (int_eq lo hi)) [ inl e ↦ rw e refl | inr e ↦ rw e refl ]
none_right scale (Some lo) None name = refl
none_right scale None (Some hi) name = refl
none_right scale None None name = refl

without_right : (sum : List Term) (scale : ℕ) (lo hi : Option ℤ) (names : List (List ℕ))
    → map (coefficient_of (record { sum = sum; test = test_tree scale lo hi })) names ≡ map (λ n. total (coefficient_in n) sum) names
without_right sum scale lo hi [] = refl
without_right sum scale lo hi (name ∷ names) =
    let left = total (coefficient_in name) sum in
    let none = none_right scale lo hi name in
    ap₂ (λ (x : ℤ) (xs : List ℤ). x ∷ xs) (omega (arith, ints)) (without_right sum scale lo hi names)

-- ---- the limits

-- no number occurs on the left
no_number : (names : List (List ℕ)) (coeffs : List ℤ) → total number_in (terms_tree names coeffs) ≡ pos 0
no_number [] coeffs = refl
no_number (name ∷ names) [] = refl
no_number (name ∷ names) (c ∷ coeffs) =
    let rest = no_number names coeffs in
    elim (cases_Bool (int_eq c (pos 0))) [
      | inl e ↦ rw e rest
      | inr e ↦ rw (e, rest) refl
    ]

-- a single number on the right keeps its value
alone : (n : ℤ) → (n +ℤ pos 0) -ℤ pos 0 ≡ n
alone n = omega (arith, ints)

unmoved : (n : ℤ) → n -ℤ pos 0 ≡ n
unmoved n = omega (arith, ints)

-- it is a whole number of units of its scale
alone_whole : (scale : ℕ) (z : ℤ) → is_whole scale ((units_tree scale z +ℤ pos 0) -ℤ pos 0) ≡ true
alone_whole scale z = ap (is_whole scale) (alone (units_tree scale z)) ∙ (units_are_whole scale z).0

alone_units : (scale : ℕ) (z : ℤ) → units_in scale ((units_tree scale z +ℤ pos 0) -ℤ pos 0) ≡ z
alone_units scale z = ap (units_in scale) (alone (units_tree scale z)) ∙ (units_are_whole scale z).1

unmoved_whole : (scale : ℕ) (z : ℤ) → is_whole scale (units_tree scale z -ℤ pos 0) ≡ true
unmoved_whole scale z = ap (is_whole scale) (unmoved (units_tree scale z)) ∙ (units_are_whole scale z).0

unmoved_units : (scale : ℕ) (z : ℤ) → units_in scale (units_tree scale z -ℤ pos 0) ≡ z
unmoved_units scale z = ap (units_in scale) (unmoved (units_tree scale z)) ∙ (units_are_whole scale z).1

whole_back : (scale : ℕ) (lo hi : Option ℤ) → (is_some lo || is_some hi) ≡ true → has_whole_limits scale (test_tree scale lo hi) (pos 0) ≡ true
whole_back scale (Some lo) (Some hi) limited =
    elim (cases_Bool (int_eq lo hi)) [
      | inl e ↦ rw e (alone_whole scale lo)
      | inr e ↦ rw e (and_from _ _ (unmoved_whole scale lo) (unmoved_whole scale hi))
    ]
whole_back scale (Some lo) None limited = alone_whole scale lo
whole_back scale None (Some hi) limited = alone_whole scale hi
whole_back scale None None limited = absurd (false≢true limited)

limits_back : (scale : ℕ) (lo hi : Option ℤ) → (is_some lo || is_some hi) ≡ true → limits_of scale (test_tree scale lo hi) (pos 0) ≡ record { lo = lo; hi = hi }
limits_back scale (Some lo) (Some hi) limited =
    elim (cases_Bool (int_eq lo hi)) [
      | inl e ↦ rw (e, alone_units scale lo) (ap (λ (z : ℤ). record { lo = Some lo; hi = Some z }) ((Decides-int_eq lo hi).0 e))
      | inr e ↦ rw (e, unmoved_units scale lo, unmoved_units scale hi) refl
    ]
limits_back scale (Some lo) None limited = rw (alone_units scale lo) refl
limits_back scale None (Some hi) limited = rw (alone_units scale hi) refl
limits_back scale None None limited = absurd (false≢true limited)

-- ---- the columns

-- names that are among columns are also among more columns
among_more : (first : List ℕ) (names columns : List (List ℕ)) → list_all (λ name. list_any (λ column. bytes_eq column name) columns) names ≡ true
    → list_all (λ name. list_any (λ column. bytes_eq column name) (first ∷ columns)) names ≡ true
among_more first [] columns all = refl
among_more first (name ∷ names) columns all =
    let parts = and_parts (list_any (λ column. bytes_eq column name) columns) (list_all (λ n. list_any (λ column. bytes_eq column n) columns) names) all in
    elim (cases_Bool (bytes_eq first name)) [
      | inl e ↦ rw e (among_more first names columns parts.1)
      | inr e ↦ rw (e, parts.0) (among_more first names columns parts.1)
    ]

-- each name is among all names
each_among : (names : List (List ℕ)) → list_all (λ name. list_any (λ column. bytes_eq column name) names) names ≡ true
each_among [] = refl
each_among (name ∷ names) = rw (same_name name) (among_more name names names (each_among names))

-- if each column passes a test, each column that the tree names does
right_pass : (p : List ℕ → Bool) (scale : ℕ) (lo hi : Option ℤ) → list_all p (flat_map columns_in (right_of (test_tree scale lo hi))) ≡ true
right_pass p scale (Some lo) (Some hi) = elim (cases_Bool (int_eq lo hi)) [ inl e ↦ rw e refl | inr e ↦ rw e refl ]
right_pass p scale (Some lo) None = refl
right_pass p scale None (Some hi) = refl
right_pass p scale None None = refl

named_pass : (p : List ℕ → Bool) (names : List (List ℕ)) (coeffs : List ℤ) (scale : ℕ) (lo hi : Option ℤ) → list_all p names ≡ true
    → list_all p (flat_map columns_in (terms_tree names coeffs ++ right_of (test_tree scale lo hi))) ≡ true
named_pass p [] coeffs scale lo hi all = right_pass p scale lo hi
named_pass p (name ∷ names) [] scale lo hi all = right_pass p scale lo hi
named_pass p (name ∷ names) (c ∷ coeffs) scale lo hi all =
    let parts = and_parts (p name) (list_all p names) all in
    let rest = named_pass p names coeffs scale lo hi parts.1 in
    elim (cases_Bool (int_eq c (pos 0))) [
      | inl e ↦ rw e rest
      | inr e ↦ rw (e, parts.0) rest
    ]

-- ---- the whole check

-- the check made of a name, printed coefficients, a scale and a condition's limits, if these are valid and the columns
-- exist
abbrev check_with : Bool → List ℕ → List ℕ → Condition → List ℤ → ℕ → Option Check
check_with there name scales condition written scale =
    cond (there && are_good_coefficients written && has_good_limits scale condition && is_written_name name)
    (Some (record { name = name; coeffs = scaled_coeffs scale written scales; scale = scale; span = condition_limits scale condition })) None

-- the limits of its tree are its own limits
span_again : (names : List (List ℕ)) (scales : List ℕ) (check : Check) → IsDeclared names scales check → condition_limits check.scale (condition_tree names scales check) ≡ check.span
span_again names scales check h =
    ap (limits_of check.scale (test_tree check.scale check.span.lo check.span.hi)) (no_number names (written_of check scales)) ∙ limits_back check.scale check.span.lo check.span.hi h.limited

-- these limits are valid
good_again : (names : List (List ℕ)) (scales : List ℕ) (check : Check) → IsDeclared names scales check → has_good_limits check.scale (condition_tree names scales check) ≡ true
good_again names scales check h =
    let test = test_tree check.scale check.span.lo check.span.hi in
    let whole = ap (has_whole_limits check.scale test) (no_number names (written_of check scales)) ∙ whole_back check.scale check.span.lo check.span.hi h.limited in
    and_from _ _ whole (ap is_good_span (span_again names scales check h) ∙ h.limits)

again : (names : List (List ℕ)) (scales : List ℕ) (check : Check) → are_distinct names ≡ true → IsDeclared names scales check
    → check_of names scales check.name (condition_tree names scales check) ≡ Some check
again names scales check apart h =
    let condition = condition_tree names scales check in
    let written = written_of check scales in
    let lo = check.span.lo in
    let hi = check.span.hi in
    let is_column : List ℕ → Bool = λ name. list_any (λ column. bytes_eq column name) names in
    let there : names_columns names condition ≡ true = named_pass is_column names written check.scale lo hi (each_among names) in
    let coeffs : map (coefficient_of condition) names ≡ written =
    without_right (terms_tree names written) check.scale lo hi names ∙ terms_back names written apart (written_covers names scales check h) in
    let made = check_with (names_columns names condition) check.name scales condition in
    let good = and_from _ _ (and_from _ _ (and_from _ _ there h.coefficients) (good_again names scales check h)) h.written in
    ap (λ (cs : List ℤ). made cs (form_scale cs scales)) coeffs ∙ ap (made written) h.scale ∙ cond-true _ _ _ good ∙
    ap₂ (λ (cs : List ℤ) (span : Span). Some (record { name = check.name; coeffs = cs; scale = check.scale; span = span })) h.scaled (span_again names scales check h)

-- printed checks are declared again by their own texts
pub all_again : (names : List (List ℕ)) (scales : List ℕ) (checks : List Check) (n : ℕ) → are_distinct names ≡ true → AllByRecursion (IsDeclared names scales) checks
    → checks_from names scales (map (check_tree names scales) checks) n ≡ Some checks
all_again names scales [] n apart all = refl
all_again names scales (check ∷ checks) n apart all = rw (again names scales check apart all.0, all_again names scales checks (n + 1) apart all.1) refl
