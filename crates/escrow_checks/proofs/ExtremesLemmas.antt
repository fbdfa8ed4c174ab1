-- The extremes over all choices are the form plus the falls, and the form plus the rises.
use Rattle.std.proofs.Common.{◌≡◌, ◌<◌, ◌≤◌, ℤ, pos, ◌+ℤ◌, List, [], ◌∷◌, ◌++◌, length, map, refl, ap, ap₂, ◌∙◌, sym, arith, length-append}
use Rattle.std.proofs.lemmas.List.{map-append}
use Rattle.std.proofs.lemmas.Simd.{map-map}
use Rattle.std.specs.Int.{int_min, int_max}
use Rattle.std.proofs.lemmas.Int.{ints, clamps}
use Rattle.std.specs.Prelude.{Option, option_map}
use Rattle.escrow_num.specs.Span.{first_broken_of}
use Rattle.escrow_num.specs.declared.span.Side.{Side}
use Rattle.escrow_checks.specs.declared.check.Check.{Check}
use Rattle.escrow_checks.specs.declared.spread.Spread.{Spread}
use Rattle.escrow_checks.specs.Form.{form, IsCovered, changed, all_changed}
use Rattle.escrow_checks.specs.Grant.{broken_by}
use Rattle.escrow_checks.specs.Sublists.{sublists}
use Rattle.escrow_checks.specs.Extremes.{outcomes, smallest, largest, least, greatest}
use Rattle.escrow_checks.specs.Spread.{falls, rises, IsSpread}
use Rattle.escrow_checks.proofs.FormLemmas.{form-changed, length-changed}

-- ---- the outcomes with one more reservation: those without it, and those with it

pub outcomes-cons : (coeffs amounts changes : List ℤ) (reservations : List (List ℤ)) → outcomes coeffs amounts (changes ∷ reservations) ≡ outcomes coeffs amounts reservations ++ outcomes coeffs (changed amounts changes) reservations
outcomes-cons coeffs amounts changes reservations =
    map-append (λ chosen. form coeffs (all_changed amounts chosen)) (sublists reservations) (map (λ chosen. changes ∷ chosen) (sublists reservations))
    ∙ ap (λ zs. outcomes coeffs amounts reservations ++ zs) (map-map (λ chosen. form coeffs (all_changed amounts chosen)) (λ chosen. changes ∷ chosen) (sublists reservations))

-- there is at least one choice: the empty one
pub some_outcome : (coeffs amounts : List ℤ) (reservations : List (List ℤ)) → 0 < length (outcomes coeffs amounts reservations)
some_outcome coeffs amounts [] = omega arith
some_outcome coeffs amounts (changes ∷ reservations) =
    rw (outcomes-cons coeffs amounts changes reservations, length-append (outcomes coeffs amounts reservations) (outcomes coeffs (changed amounts changes) reservations)) (omega (arith, some_outcome coeffs amounts reservations))

-- ---- the least and the greatest of two lists joined

int_min_assoc : (a b c : ℤ) → int_min a (int_min b c) ≡ int_min (int_min a b) c
int_min_assoc a b c = omega (arith, ints, clamps)

int_max_assoc : (a b c : ℤ) → int_max a (int_max b c) ≡ int_max (int_max a b) c
int_max_assoc a b c = omega (arith, ints, clamps)

smallest-append : (xs ys : List ℤ) → 0 < length xs → 0 < length ys → smallest (xs ++ ys) ≡ int_min (smallest xs) (smallest ys)
smallest-append [] ys h k = absurd (omega arith)
smallest-append (x ∷ []) [] h k = absurd (omega arith)
smallest-append (x ∷ []) (y ∷ ys) h k = refl
smallest-append (x ∷ x' ∷ xs) ys h k = ap (int_min x) (smallest-append (x' ∷ xs) ys (omega arith) k) ∙ int_min_assoc x (smallest (x' ∷ xs)) (smallest ys)

largest-append : (xs ys : List ℤ) → 0 < length xs → 0 < length ys → largest (xs ++ ys) ≡ int_max (largest xs) (largest ys)
largest-append [] ys h k = absurd (omega arith)
largest-append (x ∷ []) [] h k = absurd (omega arith)
largest-append (x ∷ []) (y ∷ ys) h k = refl
largest-append (x ∷ x' ∷ xs) ys h k = ap (int_max x) (largest-append (x' ∷ xs) ys (omega arith) k) ∙ int_max_assoc x (largest (x' ∷ xs)) (largest ys)

-- ---- the extremes over all choices are the form plus the falls, and the form plus the rises

least_step : (f d falls : ℤ) → int_min (f +ℤ falls) ((f +ℤ d) +ℤ falls) ≡ f +ℤ (int_min (pos 0) d +ℤ falls)
least_step f d falls = omega (arith, ints, clamps)

greatest_step : (f d rises : ℤ) → int_max (f +ℤ rises) ((f +ℤ d) +ℤ rises) ≡ f +ℤ (int_max (pos 0) d +ℤ rises)
greatest_step f d rises = omega (arith, ints, clamps)

extreme_is : (extreme : List ℤ → ℤ) (pick : ℤ → ℤ → ℤ) (sums : List ℤ → List (List ℤ) → ℤ)
    → ((coeffs amounts : List ℤ) → extreme (outcomes coeffs amounts []) ≡ form coeffs amounts +ℤ sums coeffs [])
    → ((xs ys : List ℤ) → 0 < length xs → 0 < length ys → extreme (xs ++ ys) ≡ pick (extreme xs) (extreme ys))
    → ((coeffs changes : List ℤ) (reservations : List (List ℤ)) (f : ℤ) → pick (f +ℤ sums coeffs reservations) ((f +ℤ form coeffs changes) +ℤ sums coeffs reservations) ≡ f +ℤ sums coeffs (changes ∷ reservations))
    → (coeffs amounts : List ℤ) (reservations : List (List ℤ)) → length coeffs ≤ length amounts → extreme (outcomes coeffs amounts reservations) ≡ form coeffs amounts +ℤ sums coeffs reservations
extreme_is extreme pick sums none append step coeffs amounts [] fits = none coeffs amounts
extreme_is extreme pick sums none append step coeffs amounts (changes ∷ reservations) fits =
    let with_new = changed amounts changes in
    let kept = extreme_is extreme pick sums none append step coeffs amounts reservations fits in
    let applied = extreme_is extreme pick sums none append step coeffs with_new reservations (omega (arith, length-changed amounts changes)) in
    ap extreme (outcomes-cons coeffs amounts changes reservations)
    ∙ append (outcomes coeffs amounts reservations) (outcomes coeffs with_new reservations) (some_outcome coeffs amounts reservations) (some_outcome coeffs with_new reservations)
    ∙ ap₂ pick kept (applied ∙ ap (λ z. z +ℤ sums coeffs reservations) (form-changed coeffs amounts changes fits))
    ∙ step coeffs changes reservations (form coeffs amounts)

pub least_is : (coeffs amounts : List ℤ) (reservations : List (List ℤ)) → length coeffs ≤ length amounts → least coeffs amounts reservations ≡ form coeffs amounts +ℤ falls coeffs reservations
least_is = extreme_is smallest int_min falls (λ coeffs amounts. omega (arith, ints)) smallest-append (λ coeffs changes reservations f. least_step f (form coeffs changes) (falls coeffs reservations))

pub greatest_is : (coeffs amounts : List ℤ) (reservations : List (List ℤ)) → length coeffs ≤ length amounts → greatest coeffs amounts reservations ≡ form coeffs amounts +ℤ rises coeffs reservations
greatest_is = extreme_is largest int_max rises (λ coeffs amounts. omega (arith, ints)) largest-append (λ coeffs changes reservations f. greatest_step f (form coeffs changes) (rises coeffs reservations))

-- ---- the extremes from a spread

pub least_by_spread : (coeffs amounts : List ℤ) (reservations : List (List ℤ)) (spread : Spread) (f z : ℤ) → IsCovered coeffs amounts → IsSpread coeffs reservations spread
    → f ≡ form coeffs amounts → z ≡ f +ℤ spread.falls → z ≡ least coeffs amounts reservations
least_by_spread coeffs amounts reservations spread f z covered known is sum = omega (arith, ints, known.0, least_is coeffs amounts reservations covered)

pub greatest_by_spread : (coeffs amounts : List ℤ) (reservations : List (List ℤ)) (spread : Spread) (f z : ℤ) → IsCovered coeffs amounts → IsSpread coeffs reservations spread
    → f ≡ form coeffs amounts → z ≡ f +ℤ spread.rises → z ≡ greatest coeffs amounts reservations
greatest_by_spread coeffs amounts reservations spread f z covered known is sum = omega (arith, ints, known.1, greatest_is coeffs amounts reservations covered)

-- the broken limit from a spread
pub broken_by_spread : (check : Check) (amounts changes : List ℤ) (reservations : List (List ℤ)) (spread : Spread) (f low high : ℤ) → IsCovered check.coeffs amounts → IsSpread check.coeffs reservations spread
    → f ≡ form check.coeffs amounts +ℤ form check.coeffs changes → low ≡ f +ℤ spread.falls → high ≡ f +ℤ spread.rises
    → (found : Option (Side × ℤ × ℤ)) → found ≡ first_broken_of check.span low high
    → broken_by check amounts changes reservations ≡ option_map (λ limit. record { check = check.name; side = limit.0; worst = limit.1; limit = limit.2; scale = check.scale }) found
broken_by_spread check amounts changes reservations spread f low high covered known is is_low is_high found at =
    let with_new = changed amounts changes in
    let covered_new : IsCovered check.coeffs with_new = omega (arith, length-changed amounts changes, covered) in
    let moved : f ≡ form check.coeffs with_new = is ∙ sym (form-changed check.coeffs amounts changes covered) in
    rw (at, least_by_spread check.coeffs with_new reservations spread f low covered_new known moved is_low, greatest_by_spread check.coeffs with_new reservations spread f high covered_new known moved is_high) refl
