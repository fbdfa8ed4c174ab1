-- How many items of a list pass a test.
use Rattle.std.specs.Prelude.{◌≡◌, ℕ, zero, suc, ◌+◌, ◌*◌, ◌≤◌, Bool, true, false, cond, not, ◌==◌, List, [], ◌∷◌, map, filter, find, length, Option, Some, option_map}
use Rattle.std.proofs.Common.{inl, inr, ap, ◌∙◌, refl, arith, le_trans, mul-suc}
use Rattle.std.proofs.lemmas.Bool.{cond_both, not-true, eqb-false, cases_lt}
use Rattle.std.proofs.lemmas.List.Filters.{length-filter_both}
use Rattle.escrow_num.proofs.Items.{Has, has_filter}
use Rattle.escrow_num.proofs.Put.{length_kept}

-- at most as many items of a part of a list pass as of the whole list
pub length-filter_filter : {A : Type 0} (p q : A → Bool) (xs : List A) → length (filter p (filter q xs)) ≤ length (filter p xs)
length-filter_filter p q [] = omega arith
length-filter_filter p q (x ∷ xs) =
    let rest = length-filter_filter p q xs in
    let part = length_kept (p x) x (filter p (filter q xs)) in
    let whole = length_kept (p x) x (filter p xs) in
    cond_both (q x) (x ∷ filter q xs) (filter q xs) (λ zs. length (filter p zs) ≤ length (filter p (x ∷ xs))) (λ _. omega arith) (λ _. omega arith)

-- a change that the test does not see leaves the number
pub length-filter_map : {A : Type 0} (p : A → Bool) (f : A → A) → ((x : A) → p (f x) ≡ p x) → (xs : List A) → length (filter p (map f xs)) ≡ length (filter p xs)
length-filter_map p f same [] = refl
length-filter_map p f same (x ∷ xs) =
    let rest = length-filter_map p f same xs in
    let before = length_kept (p x) (f x) (filter p (map f xs)) in
    let after = length_kept (p x) x (filter p xs) in
    ap (λ b. length (cond b (f x ∷ filter p (map f xs)) (filter p (map f xs)))) (same x) ∙ omega arith

-- and leaves the item that a lookup finds
found_map : {A : Type 0} (f : A → A) (b : Bool) (x : A) (o later : Option A) → o ≡ option_map f later
    → cond b (Some (f x)) o ≡ option_map f (cond b (Some x) later)
found_map f true x o later e = refl
found_map f false x o later e = e

pub find_map : {A : Type 0} (p : A → Bool) (f : A → A) → ((x : A) → p (f x) ≡ p x) → (xs : List A) → find p (map f xs) ≡ option_map f (find p xs)
find_map p f same [] = refl
find_map p f same (x ∷ xs) =
    ap (λ b. cond b (Some (f x)) (find p (map f xs))) (same x)
    ∙ found_map f (p x) x (find p (map f xs)) (find p xs) (find_map p f same xs)

-- a number that is at most `n + 1` and not equal to it is at most `n`
below_last : (k n : ℕ) → k ≤ suc n → ¬ (k ≡ suc n) → k ≤ n
below_last k n h differs = elim (cases_lt k (suc n)) [ inl l ↦ omega arith | inr l ↦ absurd (differs (omega arith)) ]

sum_below : (a b c m n : ℕ) → a + b ≡ c → a ≤ m → b ≤ m * n → c ≤ m * suc n
sum_below a b c m n e h k = omega (arith, mul-suc m n)

-- a list of items numbered 1 to n, at most m with each number, has at most m * n items
pub length-by_number : {A : Type 0} (number : A → ℕ) (m n : ℕ) (xs : List A) → ((x : A) → Has xs x → (1 ≤ number x) × (number x ≤ n))
    → ((k : ℕ) → length (filter (λ x. number x == k) xs) ≤ m) → length xs ≤ m * n
length-by_number number m zero [] numbered few = omega arith
length-by_number number m zero (x ∷ xs) numbered few =
    let at = numbered x (inl refl) in
    absurd (omega arith)
length-by_number {A} number m (suc n) xs numbered few =
    let last : A → Bool = λ x. number x == suc n in
    let other : A → Bool = λ x. not (number x == suc n) in
    let in_range : (x : A) → Has (filter other xs) x → (1 ≤ number x) × (number x ≤ n) = λ x h.
    let kept = has_filter other xs x h in
    let range = numbered x kept.0 in
    let differs = eqb-false (number x) (suc n) (not-true (number x == suc n) kept.1) in
    (range.0, below_last (number x) n range.1 differs) in
    let rest = length-by_number number m n (filter other xs) in_range
    (λ k. le_trans (length-filter_filter (λ x. number x == k) other xs) (few k)) in
    let parts = length-filter_both last other (λ _. refl) xs in
    let of_last = few (suc n) in
    sum_below (length (filter last xs)) (length (filter other xs)) (length xs) m n parts of_last rest
