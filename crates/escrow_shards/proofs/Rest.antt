-- The rest of a list from an item on, and facts that hold exactly if a test is true.
use Rattle.std.proofs.Common.{◌≡◌, ◌↔◌, ℕ, ◌+◌, ◌<◌, ◌≤◌, true, false, IsTrue, List, ◌∷◌, length, get_or, drop, refl, sym, ap, ◌∙◌, subst}
use Rattle.std.specs.List.{AllByRecursion}
use Rattle.std.proofs.lemmas.List.{drop_more, drop_all}

-- the test is false, and the fact does not hold
pub is_false : {P : Type 0} → (P → ⊥) → (IsTrue false ↔ P)
is_false never = (λ e. absurd (cc), λ p. absurd (never p))

-- the test is true, and the fact holds
pub is_true : {P : Type 0} → P → (IsTrue true ↔ P)
is_true p = (λ _. p, λ _. refl)

pub same_when : {P Q R : Type 0} → (P ↔ Q) → (Q ↔ R) → (P ↔ R)
same_when first second = (λ p. second.0 (first.0 p), λ r. first.1 (second.1 r))

-- the rest of a list at an item begins with that item
pub rest_at : {X : Type 0} (xs : List X) (i : ℕ) (x : X) → i < length xs → x ≡ get_or xs i x → drop i xs ≡ x ∷ drop (i + 1) xs
rest_at xs i x below at = drop_more xs i x below ∙ ap (λ y. y ∷ drop (i + 1) xs) (sym at)

-- if an item passes, all pass exactly if the later ones do
pub all_here : {X : Type 0} (P : X → Type 0) (xs : List X) (i : ℕ) (x : X) → i < length xs → x ≡ get_or xs i x → P x
    → (AllByRecursion P (drop i xs) ↔ AllByRecursion P xs) → (AllByRecursion P (drop (i + 1) xs) ↔ AllByRecursion P xs)
all_here P xs i x below at passes left =
    let here = rest_at xs i x below at in
    (λ rest. left.0 (subst (AllByRecursion P) (sym here) (passes, rest)), λ all. (subst (AllByRecursion P) here (left.1 all)).1)

-- if one item fails, not all pass
pub all_fails : {X : Type 0} (P : X → Type 0) (xs : List X) (i : ℕ) (x : X) → i < length xs → x ≡ get_or xs i x → (P x → ⊥)
    → (AllByRecursion P (drop i xs) ↔ AllByRecursion P xs) → AllByRecursion P xs → ⊥
all_fails P xs i x below at fails left all = fails (subst (AllByRecursion P) (rest_at xs i x below at) (left.1 all)).0

-- at the end, all pass
pub all_end : {X : Type 0} (P : X → Type 0) (xs : List X) (i : ℕ) → length xs ≤ i
    → (AllByRecursion P (drop i xs) ↔ AllByRecursion P xs) → AllByRecursion P xs
all_end P xs i past left = left.0 (subst (AllByRecursion P) (sym (drop_all i xs past)) tt)
