-- The extremes bound every choice, and some choice reaches each of them.
use Rattle.std.proofs.Common.{◌≡◌, ◌<◌, ℤ, pos, ◌≤ℤ◌, ◌⊎◌, inl, inr, true, false, cond, List, [], ◌∷◌, length, map, refl, ◌∙◌, sym, arith}
use Rattle.std.specs.Prelude.{All, Contains, int_lt}
use Rattle.std.specs.Int.{int_min, int_max}
use Rattle.std.proofs.lemmas.Int.{ints, clamps}
use Rattle.std.proofs.lemmas.List.{length-map}
use Rattle.std.proofs.lemmas.List.Elements.{All-nil, All-cons, All-weaker, Contains-append_right}
use Rattle.escrow_checks.specs.Form.{form, all_changed}
use Rattle.escrow_checks.specs.Sublists.{sublists}
use Rattle.escrow_checks.specs.Extremes.{smallest, largest, least, greatest}
use Rattle.escrow_checks.specs.Laws.{IsReached}
use Rattle.escrow_checks.proofs.ExtremesLemmas.{some_outcome}

int_min_left : (x y : ℤ) → int_min x y ≤ℤ x
int_min_left x y = omega (arith, ints, clamps)

int_min_right : (x y z : ℤ) → y ≤ℤ z → int_min x y ≤ℤ z
int_min_right x y z h = omega (arith, ints, clamps)

int_max_left : (x y : ℤ) → x ≤ℤ int_max x y
int_max_left x y = omega (arith, ints, clamps)

int_max_right : (x y z : ℤ) → z ≤ℤ y → z ≤ℤ int_max x y
int_max_right x y z h = omega (arith, ints, clamps)

int_min_one : (x y : ℤ) → (int_min x y ≡ x) ⊎ (int_min x y ≡ y)
int_min_one x y = elim (int_lt y x) as (λ b. (cond b y x ≡ x) ⊎ (cond b y x ≡ y)) [ true ↦ inr refl | false ↦ inl refl ]

int_max_one : (x y : ℤ) → (int_max x y ≡ x) ⊎ (int_max x y ≡ y)
int_max_one x y = elim (int_lt y x) as (λ b. (cond b x y ≡ x) ⊎ (cond b x y ≡ y)) [ true ↦ inl refl | false ↦ inr refl ]

pub le_refl : (x : ℤ) → x ≤ℤ x
le_refl x = omega (arith, ints)

smallest_below : {A : Type 0} (f : A → ℤ) (xs : List A) → All (λ x. smallest (map f xs) ≤ℤ f x) xs
smallest_below f [] = All-nil (λ x. pos 0 ≤ℤ f x)
smallest_below f (x ∷ []) = All-cons (λ y. f x ≤ℤ f y) x [] (le_refl (f x)) (All-nil (λ y. f x ≤ℤ f y))
smallest_below f (x ∷ y ∷ xs) =
    let rest = smallest (map f (y ∷ xs)) in
    All-cons (λ z. int_min (f x) rest ≤ℤ f z) x (y ∷ xs) (int_min_left (f x) rest)
    (All-weaker (λ z. rest ≤ℤ f z) (λ z. int_min (f x) rest ≤ℤ f z) (λ z h. int_min_right (f x) rest (f z) h) (y ∷ xs) (smallest_below f (y ∷ xs)))

largest_above : {A : Type 0} (f : A → ℤ) (xs : List A) → All (λ x. f x ≤ℤ largest (map f xs)) xs
largest_above f [] = All-nil (λ x. f x ≤ℤ pos 0)
largest_above f (x ∷ []) = All-cons (λ y. f y ≤ℤ f x) x [] (le_refl (f x)) (All-nil (λ y. f y ≤ℤ f x))
largest_above f (x ∷ y ∷ xs) =
    let rest = largest (map f (y ∷ xs)) in
    All-cons (λ z. f z ≤ℤ int_max (f x) rest) x (y ∷ xs) (int_max_left (f x) rest)
    (All-weaker (λ z. f z ≤ℤ rest) (λ z. f z ≤ℤ int_max (f x) rest) (λ z h. int_max_right (f x) rest (f z) h) (y ∷ xs) (largest_above f (y ∷ xs)))

abbrev GivenBy : {A : Type 0} → (A → ℤ) → List A → ℤ → Type 0
GivenBy {A} f xs z = (x : A) × Contains xs x × (f x ≡ z)

given_first : {A : Type 0} (f : A → ℤ) (x : A) (xs : List A) (z : ℤ) → z ≡ f x → GivenBy f (x ∷ xs) z
given_first f x xs z e = (x, (0, omega arith, refl), sym e)

given_later : {A : Type 0} (f : A → ℤ) (x : A) (xs : List A) (y z : ℤ) → z ≡ y → GivenBy f xs y → GivenBy f (x ∷ xs) z
given_later f x xs y z e h = (h.0, Contains-append_right (x ∷ []) xs h.0 h.1, h.2 ∙ sym e)

-- an extreme that picks one of two values each time is the value of an element
extreme_given : {A : Type 0} (extreme : List ℤ → ℤ) (pick : ℤ → ℤ → ℤ) → ((x : ℤ) → extreme (x ∷ []) ≡ x) → ((x y : ℤ) (zs : List ℤ) → extreme (x ∷ y ∷ zs) ≡ pick x (extreme (y ∷ zs))) → ((x y : ℤ) → (pick x y ≡ x) ⊎ (pick x y ≡ y))
    → (f : A → ℤ) (xs : List A) → 0 < length xs → GivenBy f xs (extreme (map f xs))
extreme_given extreme pick one more either f [] h = absurd (omega arith)
extreme_given extreme pick one more either f (x ∷ []) h = given_first f x [] (extreme (f x ∷ [])) (one (f x))
extreme_given extreme pick one more either f (x ∷ y ∷ xs) h =
    let rest = extreme (map f (y ∷ xs)) in
    let picks = more (f x) (f y) (map f xs) in
    elim (either (f x) rest) [
      | inl e ↦ given_first f x (y ∷ xs) (extreme (map f (x ∷ y ∷ xs))) (picks ∙ e)
      | inr e ↦ given_later f x (y ∷ xs) rest (extreme (map f (x ∷ y ∷ xs))) (picks ∙ e) (extreme_given extreme pick one more either f (y ∷ xs) (omega arith))
    ]

smallest_given : {A : Type 0} (f : A → ℤ) (xs : List A) → 0 < length xs → GivenBy f xs (smallest (map f xs))
smallest_given f xs h = extreme_given smallest int_min (λ x. refl) (λ x y zs. refl) int_min_one f xs h

largest_given : {A : Type 0} (f : A → ℤ) (xs : List A) → 0 < length xs → GivenBy f xs (largest (map f xs))
largest_given f xs h = extreme_given largest int_max (λ x. refl) (λ x y zs. refl) int_max_one f xs h

-- ---- the extremes of a form over the choices of the open reservations

some_choice : (coeffs amounts : List ℤ) (reservations : List (List ℤ)) → 0 < length (sublists reservations)
some_choice coeffs amounts reservations = omega (arith, some_outcome coeffs amounts reservations, length-map (sublists reservations) (λ chosen. form coeffs (all_changed amounts chosen)))

pub least_below : (coeffs amounts : List ℤ) (reservations : List (List ℤ)) → All (λ chosen. least coeffs amounts reservations ≤ℤ form coeffs (all_changed amounts chosen)) (sublists reservations)
least_below coeffs amounts reservations = smallest_below (λ chosen. form coeffs (all_changed amounts chosen)) (sublists reservations)

pub greatest_above : (coeffs amounts : List ℤ) (reservations : List (List ℤ)) → All (λ chosen. form coeffs (all_changed amounts chosen) ≤ℤ greatest coeffs amounts reservations) (sublists reservations)
greatest_above coeffs amounts reservations = largest_above (λ chosen. form coeffs (all_changed amounts chosen)) (sublists reservations)

pub least_reached : (coeffs amounts : List ℤ) (reservations : List (List ℤ)) → IsReached coeffs amounts reservations (least coeffs amounts reservations)
least_reached coeffs amounts reservations = smallest_given (λ chosen. form coeffs (all_changed amounts chosen)) (sublists reservations) (some_choice coeffs amounts reservations)

pub greatest_reached : (coeffs amounts : List ℤ) (reservations : List (List ℤ)) → IsReached coeffs amounts reservations (greatest coeffs amounts reservations)
greatest_reached coeffs amounts reservations = largest_given (λ chosen. form coeffs (all_changed amounts chosen)) (sublists reservations) (some_choice coeffs amounts reservations)

pub extremes_are_reached : (coeffs amounts : List ℤ) (reservations : List (List ℤ))
    → All (λ chosen. (least coeffs amounts reservations ≤ℤ form coeffs (all_changed amounts chosen)) × (form coeffs (all_changed amounts chosen) ≤ℤ greatest coeffs amounts reservations)) (sublists reservations)
    × IsReached coeffs amounts reservations (least coeffs amounts reservations)
    × IsReached coeffs amounts reservations (greatest coeffs amounts reservations)
extremes_are_reached coeffs amounts reservations =
    (λ k d h. (least_below coeffs amounts reservations k d h, greatest_above coeffs amounts reservations k d h), least_reached coeffs amounts reservations, greatest_reached coeffs amounts reservations)
