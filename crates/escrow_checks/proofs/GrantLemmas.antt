-- What the grant rule grants, and what it refuses.
use Rattle.std.proofs.Common.{◌≡◌, ℤ, pos, ◌+ℤ◌, ◌≤ℤ◌, ◌↔◌, ◌⊎◌, inl, inr, List, [], ◌∷◌, ◌++◌, Option, Some, None, refl, ◌∙◌, sym, subst, arith}
use Rattle.std.specs.Prelude.{All, IfSome, int_lt, option_map, Bool, true, cond}
use Rattle.std.specs.Int.{int_min, int_max}
use Rattle.std.proofs.lemmas.Int.{ints, clamps}
use Rattle.std.proofs.lemmas.List.Elements.{All-nil, All-cons, All-head, All-tail, All-contains}
use Rattle.std.proofs.lemmas.Option.{cond_some}
use Rattle.escrow_num.specs.Span.{Holds, low_broken, high_broken, first_of_two, first_broken_of}
use Rattle.escrow_num.specs.declared.span.Span.{Span}
use Rattle.escrow_num.specs.declared.span.Side.{Side}
use Rattle.escrow_num.specs.declared.span.Side.TheVariants.{Low, High}
use Rattle.escrow_num.specs.declared.refusal.Violation.{Violation}
use Rattle.escrow_checks.specs.declared.check.Check.{Check}
use Rattle.escrow_checks.specs.Form.{form, IsCovered, changed, all_changed}
use Rattle.escrow_checks.specs.Sublists.{sublists}
use Rattle.escrow_checks.specs.Extremes.{least, greatest}
use Rattle.escrow_checks.specs.Spread.{falls, rises}
use Rattle.escrow_checks.specs.Grant.{AlwaysMeets, broken_by, broken}
use Rattle.escrow_checks.specs.Laws.{IsReached, IsBeyond}
use Rattle.escrow_checks.proofs.FormLemmas.{form-changed, length-changed}
use Rattle.escrow_checks.proofs.SpreadLemmas.{falls-push, rises-push}
use Rattle.escrow_checks.proofs.ExtremesLemmas.{least_is, greatest_is}
use Rattle.escrow_checks.proofs.ReachedLemmas.{greatest_above, least_reached, greatest_reached}
use Rattle.escrow_checks.proofs.InsideLemmas.{Inside, raise_low, lower_high, always_from_inside, inside_from_always, always_from_sums, sums_from_always}

unbroken_low : (o : Option ℤ) (low : ℤ) → low_broken o low ≡ None → IfSome o (λ lo. lo ≤ℤ low)
unbroken_low None low e = tt
unbroken_low (Some lo) low e = grind (arith, ints)

unbroken_high : (o : Option ℤ) (high : ℤ) → high_broken o high ≡ None → IfSome o (λ hi. high ≤ℤ hi)
unbroken_high None high e = tt
unbroken_high (Some hi) high e = grind (arith, ints)

both_none : {A : Type 0} (a b : Option A) → first_of_two a b ≡ None → (a ≡ None) × (b ≡ None)
both_none None b e = (refl, e)
both_none (Some a) b e = absurd cc

map_none : {A B : Type 0} (f : A → B) (o : Option A) → option_map f o ≡ None → o ≡ None
map_none f None e = refl
map_none f (Some a) e = absurd cc

inside_from_unbroken : (span : Span) (low high : ℤ) → first_broken_of span low high ≡ None → Inside span low high
inside_from_unbroken span low high e =
    let both = both_none (low_broken span.lo low) (high_broken span.hi high) e in
    (unbroken_low span.lo low both.0, unbroken_high span.hi high both.1)

-- if a new reservation breaks nothing, the extremes with it are within the limits
pub inside_if_granted : (check : Check) (amounts changes : List ℤ) (reservations : List (List ℤ)) → broken_by check amounts changes reservations ≡ None
    → Inside check.span (least check.coeffs (changed amounts changes) reservations) (greatest check.coeffs (changed amounts changes) reservations)
inside_if_granted check amounts changes reservations granted =
    let low = least check.coeffs (changed amounts changes) reservations in
    let high = greatest check.coeffs (changed amounts changes) reservations in
    inside_from_unbroken check.span low high (map_none _ (first_broken_of check.span low high) granted)

low_from_inside : (o : Option ℤ) (low : ℤ) → IfSome o (λ lo. lo ≤ℤ low) → low_broken o low ≡ None
low_from_inside None low inside = refl
low_from_inside (Some lo) low inside = grind (arith, ints)

high_from_inside : (o : Option ℤ) (high : ℤ) → IfSome o (λ hi. high ≤ℤ hi) → high_broken o high ≡ None
high_from_inside None high inside = refl
high_from_inside (Some hi) high inside = grind (arith, ints)

pub granted_where_always_met : (check : Check) (amounts changes : List ℤ) (reservations : List (List ℤ))
    → (broken_by check amounts changes reservations ≡ None) ↔ AlwaysMeets check (changed amounts changes) reservations
granted_where_always_met check amounts changes reservations =
    let with_new = changed amounts changes in
    let low = least check.coeffs with_new reservations in
    let high = greatest check.coeffs with_new reservations in (
      λ granted. always_from_inside check with_new reservations (inside_from_unbroken check.span low high (map_none _ (first_broken_of check.span low high) granted)),
      λ always.
          let inside = inside_from_always check with_new reservations always in
          rw (low_from_inside check.span.lo low inside.0, high_from_inside check.span.hi high inside.1) refl,
    )

pub granted_where_all_always_met : (checks : List Check) (amounts changes : List ℤ) (reservations : List (List ℤ))
    → (broken checks amounts changes reservations ≡ None) ↔ All (λ check. AlwaysMeets check (changed amounts changes) reservations) checks
granted_where_all_always_met [] amounts changes reservations = (λ granted. All-nil (λ check. AlwaysMeets check (changed amounts changes) reservations), λ all. refl)
granted_where_all_always_met (check ∷ checks) amounts changes reservations =
    let Met : Check → Type 0 = λ c. AlwaysMeets c (changed amounts changes) reservations in
    let first = granted_where_always_met check amounts changes reservations in
    let rest = granted_where_all_always_met checks amounts changes reservations in (
      λ granted.
          let both = both_none (broken_by check amounts changes reservations) (broken checks amounts changes reservations) granted in
          All-cons Met check checks (first.0 both.0) (rest.0 both.1),
      λ all. rw (first.1 (All-head Met check checks all), rest.1 (All-tail Met check checks all)) refl,
    )

-- ---- a new reservation moves both extremes

-- the least value is at most the greatest
least_first : (coeffs amounts : List ℤ) (reservations : List (List ℤ)) → least coeffs amounts reservations ≤ℤ greatest coeffs amounts reservations
least_first coeffs amounts reservations =
    let reached = least_reached coeffs amounts reservations in
    let above = All-contains (λ chosen. form coeffs (all_changed amounts chosen) ≤ℤ greatest coeffs amounts reservations) (sublists reservations) reached.0 (greatest_above coeffs amounts reservations) reached.1 in
    omega (arith, ints, above, reached.2)

both_from_inside : (span : Span) (low high : ℤ) → low ≤ℤ high → Inside span low high → Holds span low × Holds span high
both_from_inside span low high h inside =
    ((inside.0, lower_high span.hi high low h inside.1), (raise_low span.lo low high h inside.0, inside.1))

pub bounds_decide : (check : Check) (amounts changes : List ℤ) (reservations : List (List ℤ)) → IsCovered check.coeffs amounts
    → (least check.coeffs (changed amounts changes) reservations ≡ least check.coeffs amounts reservations +ℤ form check.coeffs changes)
    × (greatest check.coeffs (changed amounts changes) reservations ≡ greatest check.coeffs amounts reservations +ℤ form check.coeffs changes)
    × ((broken_by check amounts changes reservations ≡ None) ↔ (Holds check.span (least check.coeffs amounts reservations +ℤ form check.coeffs changes) × Holds check.span (greatest check.coeffs amounts reservations +ℤ form check.coeffs changes)))
bounds_decide check amounts changes reservations covered =
    let coeffs : List ℤ = check.coeffs in
    let with_new : List ℤ = changed amounts changes in
    let covered_new : IsCovered coeffs with_new = omega (arith, length-changed amounts changes, covered) in
    let moved = form-changed coeffs amounts changes covered in
    let low : least coeffs with_new reservations ≡ least coeffs amounts reservations +ℤ form coeffs changes = omega (arith, ints, least_is coeffs with_new reservations covered_new, least_is coeffs amounts reservations covered, moved) in
    let high : greatest coeffs with_new reservations ≡ greatest coeffs amounts reservations +ℤ form coeffs changes = omega (arith, ints, greatest_is coeffs with_new reservations covered_new, greatest_is coeffs amounts reservations covered, moved) in
    let Both : ℤ → ℤ → Type 0 = λ l h. (broken_by check amounts changes reservations ≡ None) ↔ (Holds check.span l × Holds check.span h) in
    let always = granted_where_always_met check amounts changes reservations in
    let both : Both (least coeffs with_new reservations) (greatest coeffs with_new reservations) = (
      λ granted. both_from_inside check.span _ _ (least_first coeffs with_new reservations) (inside_if_granted check amounts changes reservations granted),
      λ held. always.1 (always_from_inside check with_new reservations (held.0.0, held.1.1)),
    ) in
    (low, high, subst (λ (h : ℤ). Both (least coeffs amounts reservations +ℤ form coeffs changes) h) high (subst (λ (l : ℤ). Both l (greatest coeffs with_new reservations)) low both))

-- limits that hold with the new reservation, and without it, hold in every case
inside_both : (o p : Option ℤ) (f d falls rises : ℤ)
    → IfSome o (λ lo. lo ≤ℤ (f +ℤ falls)) → IfSome p (λ hi. (f +ℤ rises) ≤ℤ hi)
    → IfSome o (λ lo. lo ≤ℤ ((f +ℤ d) +ℤ falls)) → IfSome p (λ hi. ((f +ℤ d) +ℤ rises) ≤ℤ hi)
    → IfSome o (λ lo. lo ≤ℤ (f +ℤ (falls +ℤ int_min (pos 0) d))) × IfSome p (λ hi. (f +ℤ (rises +ℤ int_max (pos 0) d)) ≤ℤ hi)
inside_both None None f d falls rises a b a' b' = (tt, tt)
inside_both None (Some hi) f d falls rises a b a' b' = (tt, omega (arith, ints, clamps))
inside_both (Some lo) None f d falls rises a b a' b' = (omega (arith, ints, clamps), tt)
inside_both (Some lo) (Some hi) f d falls rises a b a' b' = (omega (arith, ints, clamps), omega (arith, ints, clamps))

pub granted_stays_safe : (check : Check) (amounts changes : List ℤ) (reservations : List (List ℤ)) → IsCovered check.coeffs amounts
    → AlwaysMeets check amounts reservations → broken_by check amounts changes reservations ≡ None → AlwaysMeets check amounts (reservations ++ changes ∷ [])
granted_stays_safe check amounts changes reservations covered always granted =
    let coeffs = check.coeffs in
    let with_new = changed amounts changes in
    let covered_new : IsCovered coeffs with_new = omega (arith, length-changed amounts changes, covered) in
    let old = sums_from_always check amounts reservations covered always in
    let inside = inside_if_granted check amounts changes reservations granted in
    let new = rw (least_is coeffs with_new reservations covered_new, greatest_is coeffs with_new reservations covered_new, form-changed coeffs amounts changes covered) at inside in
    always_from_sums check amounts (reservations ++ changes ∷ []) covered
    (rw (falls-push coeffs reservations changes, rises-push coeffs reservations changes)
    (inside_both check.span.lo check.span.hi (form coeffs amounts) (form coeffs changes) (falls coeffs reservations) (rises coeffs reservations) old.0 old.1 new.0 new.1))

-- ---- what is refused

map_some : {A B : Type 0} (f : A → B) (o : Option A) (y : B) → option_map f o ≡ Some y → (x : A) × (o ≡ Some x) × (y ≡ f x)
map_some f None y e = absurd cc
map_some f (Some x) y e = (x, refl, cc)

one_of_two : {A : Type 0} (a b : Option A) (x : A) → first_of_two a b ≡ Some x → (a ≡ Some x) ⊎ (b ≡ Some x)
one_of_two None b x e = inr e
one_of_two (Some a) b x e = inl e

-- if a limit is broken, that limit and a value beyond it are found
limit_found : (span : Span) (broken : Bool) (limit found : Side × ℤ × ℤ) → cond broken (Some limit) None ≡ Some found → (broken ≡ true → IsBeyond span limit.0 limit.1 limit.2)
    → (found.1 ≡ limit.1) × IsBeyond span found.0 found.1 found.2
limit_found span broken limit found e beyond =
    let known = cond_some broken limit found e in
    rw (← known.1) (refl, beyond known.0)

low_beyond : (span : Span) (o : Option ℤ) (low : ℤ) (found : Side × ℤ × ℤ) → span.lo ≡ o → low_broken o low ≡ Some found → (found.1 ≡ low) × IsBeyond span found.0 found.1 found.2
low_beyond span None low found is e = absurd cc
low_beyond span (Some lo) low found is e = limit_found span (int_lt low lo) (Low, low, lo) found e (λ less. (is, grind (arith, ints, less)))

high_beyond : (span : Span) (o : Option ℤ) (high : ℤ) (found : Side × ℤ × ℤ) → span.hi ≡ o → high_broken o high ≡ Some found → (found.1 ≡ high) × IsBeyond span found.0 found.1 found.2
high_beyond span None high found is e = absurd cc
high_beyond span (Some hi) high found is e = limit_found span (int_lt hi high) (High, high, hi) found e (λ less. (is, grind (arith, ints, less)))

reached_at : (coeffs amounts : List ℤ) (reservations : List (List ℤ)) (y z : ℤ) → z ≡ y → IsReached coeffs amounts reservations y → IsReached coeffs amounts reservations z
reached_at coeffs amounts reservations y z e h = (h.0, h.1, h.2 ∙ sym e)

found_is_reached : (span : Span) (coeffs with_new : List ℤ) (reservations : List (List ℤ)) (found : Side × ℤ × ℤ)
    → first_broken_of span (least coeffs with_new reservations) (greatest coeffs with_new reservations) ≡ Some found
    → IsBeyond span found.0 found.1 found.2 × IsReached coeffs with_new reservations found.1
found_is_reached span coeffs with_new reservations found e =
    let low = least coeffs with_new reservations in
    let high = greatest coeffs with_new reservations in
    elim (one_of_two (low_broken span.lo low) (high_broken span.hi high) found e) [
      | inl at ↦ let known = low_beyond span span.lo low found refl at in (known.1, reached_at coeffs with_new reservations low found.1 known.0 (least_reached coeffs with_new reservations))
      | inr at ↦ let known = high_beyond span span.hi high found refl at in (known.1, reached_at coeffs with_new reservations high found.1 known.0 (greatest_reached coeffs with_new reservations))
    ]

pub refused_names_a_choice : (check : Check) (amounts changes : List ℤ) (reservations : List (List ℤ)) (violation : Violation)
    → broken_by check amounts changes reservations ≡ Some violation
    → (violation.check ≡ check.name) × IsBeyond check.span violation.side violation.worst violation.limit × IsReached check.coeffs (changed amounts changes) reservations violation.worst
    × (violation.scale ≡ check.scale)
refused_names_a_choice check amounts changes reservations violation refused =
    let with_new = changed amounts changes in
    let found = map_some _ (first_broken_of check.span (least check.coeffs with_new reservations) (greatest check.coeffs with_new reservations)) violation refused in
    let known = found_is_reached check.span check.coeffs with_new reservations found.0 found.1 in
    rw found.2 (refl, known.0, known.1, refl)
