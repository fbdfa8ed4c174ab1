-- Filters of a list: tests that agree, one item more; a list is a choice of itself.
use Rattle.std.specs.Prelude.{◌≡◌, Bool, true, false, cond, List, [], ◌∷◌, ◌++◌, filter}
use Rattle.std.proofs.Common.{inr, refl, ap, ap₂, ◌∙◌}
use Rattle.std.proofs.lemmas.List.Elements.{filter-append}
use Rattle.escrow_machine.proofs.Choices.{IsChoice}

-- tests that agree keep the same items
pub filter_alike : {A : Type 0} (p q : A → Bool) → ((x : A) → p x ≡ q x) → (xs : List A) → filter p xs ≡ filter q xs
filter_alike p q same [] = refl
filter_alike {A} p q same (x ∷ xs) = ap₂ (λ (b : Bool) (rest : List A). cond b (x ∷ rest) rest) (same x) (filter_alike p q same xs)

-- one item more is kept or not
pub filter_push : {A : Type 0} (p : A → Bool) (xs : List A) (x : A) → p x ≡ true → filter p (xs ++ x ∷ []) ≡ filter p xs ++ x ∷ []
filter_push p xs x t = filter-append p xs (x ∷ []) ∙ rw t refl

append_none : {A : Type 0} (xs : List A) → xs ++ [] ≡ xs
append_none [] = refl
append_none (x ∷ xs) = ap (λ rest. x ∷ rest) (append_none xs)

pub filter_push_none : {A : Type 0} (p : A → Bool) (xs : List A) (x : A) → p x ≡ false → filter p (xs ++ x ∷ []) ≡ filter p xs
filter_push_none p xs x f = filter-append p xs (x ∷ []) ∙ rw f (append_none (filter p xs))

-- a list is a choice of itself
pub choice_whole : {A : Type 0} (xs : List A) → IsChoice xs xs
choice_whole [] = refl
choice_whole (x ∷ xs) = inr (xs, choice_whole xs, refl)
