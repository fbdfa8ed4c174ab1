-- Choices of a list's items: the sublists of a list as a relation.
use Rattle.std.specs.Prelude.{◌≡◌, ◌⊎◌, Bool, List, [], ◌∷◌, ◌++◌, map, filter}
use Rattle.std.specs.List.{AllByRecursion}
use Rattle.std.proofs.Common.{inl, inr, sym, ap, ◌∙◌, subst, refl}
use Rattle.std.proofs.lemmas.Bool.{cond_both}
use Rattle.escrow_checks.specs.Sublists.{sublists}
use Rattle.escrow_num.proofs.Items.{Has}
use Rattle.escrow_schema.proofs.Listed.{all_map, all_unmap}

-- `chosen` has some items of the list, in their order
abbrev pub IsChoice : {A : Type 0} → List A → List A → Type 0
IsChoice [] chosen = [] ≡ chosen
IsChoice {A} (x ∷ xs) chosen = IsChoice xs chosen ⊎ ((rest : List A) × IsChoice xs rest × (x ∷ rest ≡ chosen))

-- what holds for two lists joined holds for each of them
pub all_append : {A : Type 0} (P : A → Type 0) (xs ys : List A) → AllByRecursion P (xs ++ ys) → AllByRecursion P xs × AllByRecursion P ys
all_append P [] ys all = (tt, all)
all_append P (x ∷ xs) ys all = let parts = all_append P xs ys all.1 in ((all.0, parts.0), parts.1)

pub append_all : {A : Type 0} (P : A → Type 0) (xs ys : List A) → AllByRecursion P xs → AllByRecursion P ys → AllByRecursion P (xs ++ ys)
append_all P [] ys all more = more
append_all P (x ∷ xs) ys all more = (all.0, append_all P xs ys all.1 more)

-- what holds for all sublists holds for each choice
pub all_choices : {A : Type 0} (P : List A → Type 0) (xs : List A) → AllByRecursion P (sublists xs) → (chosen : List A) → IsChoice xs chosen → P chosen
all_choices P [] all chosen e = subst P e all.0
all_choices P (x ∷ xs) all chosen (inl h) =
    let parts = all_append P (sublists xs) (map (λ rest. x ∷ rest) (sublists xs)) all in
    all_choices P xs parts.0 chosen h
all_choices P (x ∷ xs) all chosen (inr h) =
    let parts = all_append P (sublists xs) (map (λ rest. x ∷ rest) (sublists xs)) all in
    let with_first = all_unmap P (λ rest. x ∷ rest) (sublists xs) parts.1 in
    subst P h.2 (all_choices (λ rest. P (x ∷ rest)) xs with_first h.0 h.1)

-- what holds for each choice holds for all sublists
pub choices_all : {A : Type 0} (P : List A → Type 0) (xs : List A) → ((chosen : List A) → IsChoice xs chosen → P chosen) → AllByRecursion P (sublists xs)
choices_all P [] each = (each [] refl, tt)
choices_all P (x ∷ xs) each =
    append_all P (sublists xs) (map (λ rest. x ∷ rest) (sublists xs))
    (choices_all P xs (λ chosen h. each chosen (inl h)))
    (all_map P (λ rest. x ∷ rest) (sublists xs) (choices_all (λ rest. P (x ∷ rest)) xs (λ rest h. each (x ∷ rest) (inr (rest, h, refl)))))

-- the empty list and the whole list are choices of a list
pub choice_none : {A : Type 0} (xs : List A) → IsChoice xs []
choice_none [] = refl
choice_none (x ∷ xs) = inl (choice_none xs)

-- a choice of the items that pass a test is a choice of the list
pub choice_filter : {A : Type 0} (p : A → Bool) (xs chosen : List A) → IsChoice (filter p xs) chosen → IsChoice xs chosen
choice_filter p [] chosen h = h
choice_filter {A} p (x ∷ xs) chosen h =
    let later : IsChoice (filter p xs) chosen → IsChoice (x ∷ xs) chosen = λ k. inl (choice_filter p xs chosen k) in
    let first : IsChoice (x ∷ filter p xs) chosen → IsChoice (x ∷ xs) chosen =
    elim [ inl k ↦ later k | inr k ↦ inr (k.0, choice_filter p xs k.0 k.1, k.2) ] in
    cond_both (p x) (x ∷ filter p xs) (filter p xs) (λ zs. IsChoice zs chosen → IsChoice (x ∷ xs) chosen) (λ t. first) (λ f. later) h

-- a choice of a list with one more item is a choice of the list, with or without that item at its end
pub choice_push : {A : Type 0} (xs : List A) (y : A) (chosen : List A) → IsChoice (xs ++ y ∷ []) chosen
    → IsChoice xs chosen ⊎ ((front : List A) × IsChoice xs front × (front ++ y ∷ [] ≡ chosen))
choice_push [] y chosen (inl h) = inl h
choice_push [] y chosen (inr h) = inr ([], refl, ap (λ rest. y ∷ rest) h.1 ∙ h.2)
choice_push (x ∷ xs) y chosen (inl h) =
    elim (choice_push xs y chosen h) [ inl k ↦ inl (inl k) | inr k ↦ inr (k.0, inl k.1, k.2) ]
choice_push (x ∷ xs) y chosen (inr h) =
    elim (choice_push xs y h.0 h.1) [
      | inl k ↦ inl (inr (h.0, k, h.2))
      | inr k ↦ inr (x ∷ k.0, inr (k.0, k.1, refl), ap (λ rest. x ∷ rest) k.2 ∙ h.2)
    ]

-- the items of a choice are items of the list
pub choice_has : {A : Type 0} (xs chosen : List A) → IsChoice xs chosen → (x : A) → Has chosen x → Has xs x
choice_has [] chosen h x k = subst (λ zs. Has zs x) (sym h) k
choice_has (y ∷ ys) chosen (inl h) x k = inr (choice_has ys chosen h x k)
choice_has (y ∷ ys) chosen (inr h) x k =
    let at : Has (y ∷ h.0) x → Has (y ∷ ys) x = elim [ inl e ↦ inl e | inr l ↦ inr (choice_has ys h.0 h.1 x l) ] in
    at (subst (λ zs. Has zs x) (sym h.2) k)

-- the image of a choice is a choice of the image
pub choice_map : {A B : Type 0} (f : A → B) (xs chosen : List A) → IsChoice xs chosen → IsChoice (map f xs) (map f chosen)
choice_map f [] chosen h = ap (map f) h
choice_map f (x ∷ xs) chosen (inl h) = inl (choice_map f xs chosen h)
choice_map f (x ∷ xs) chosen (inr h) = inr (map f h.0, choice_map f xs h.0 h.1, ap (map f) h.2)
