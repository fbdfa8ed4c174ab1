-- Ascending lists.
use Rattle.std.specs.Prelude.{◌≡◌, ◌⊎◌, Bool, List, [], ◌∷◌, ◌++◌, map, filter, IsTrue}
use Rattle.std.proofs.Common.{inl, inr, sym, ◌∙◌, subst, refl}
use Rattle.std.proofs.lemmas.Bool.{cond_both}
use Rattle.escrow_num.specs.Ascending.{IsAscending}
use Rattle.escrow_num.proofs.Items.{Has, all_has, has_all, has_filter, has_map, has_push}

-- a filtered ascending list is ascending
pub ascending_filter : {A : Type 0} (before : A → A → Bool) (p : A → Bool) (xs : List A) → IsAscending before xs → IsAscending before (filter p xs)
ascending_filter before p [] h = tt
ascending_filter before p (x ∷ xs) h =
    let rest = ascending_filter before p xs h.1 in
    let first = has_all (λ y. IsTrue (before x y)) (filter p xs) (λ y k. all_has (λ y. IsTrue (before x y)) xs h.0 y (has_filter p xs y k).0) in
    cond_both (p x) (x ∷ filter p xs) (filter p xs) (IsAscending before) (λ _. (first, rest)) (λ _. rest)

-- if a map keeps the order of items, the list stays ascending
pub ascending_map : {A : Type 0} (before : A → A → Bool) (f : A → A) → ((x y : A) → before (f x) (f y) ≡ before x y)
    → (xs : List A) → IsAscending before xs → IsAscending before (map f xs)
ascending_map before f same [] h = tt
ascending_map before f same (x ∷ xs) h = (
  has_all (λ y. IsTrue (before (f x) y)) (map f xs) (λ y k.
      let from = has_map f xs y k in
      subst (λ z. IsTrue (before (f x) z)) from.2 (same x from.0 ∙ all_has (λ z. IsTrue (before x z)) xs h.0 from.0 from.1)),
  ascending_map before f same xs h.1,
)

-- an item that is after all others may be appended
pub ascending_push : {A : Type 0} (before : A → A → Bool) (xs : List A) (y : A) → IsAscending before xs
    → ((x : A) → Has xs x → IsTrue (before x y)) → IsAscending before (xs ++ y ∷ [])
ascending_push before [] y h last = (tt, tt)
ascending_push {A} before (x ∷ xs) y h last =
    let at : (z : A) → Has xs z ⊎ (y ≡ z) → IsTrue (before x z) = λ z. elim [
      | inl k ↦ all_has (λ z. IsTrue (before x z)) xs h.0 z k
      | inr e ↦ subst (λ z. IsTrue (before x z)) e (last x (inl refl))
    ] in (
      has_all (λ z. IsTrue (before x z)) (xs ++ y ∷ []) (λ z k. at z (has_push xs y z k)),
      ascending_push before xs y h.1 (λ z k. last z (inr k)),
    )

-- two items of an ascending list are the same, or one is before the other
pub ascending_one : {A : Type 0} (before : A → A → Bool) (xs : List A) → IsAscending before xs → (x y : A) → Has xs x → Has xs y
    → (x ≡ y) ⊎ (IsTrue (before x y) ⊎ IsTrue (before y x))
ascending_one before [] h x y a b = absurd a
ascending_one before (z ∷ zs) h x y (inl a) (inl b) = inl (sym a ∙ b)
ascending_one before (z ∷ zs) h x y (inl a) (inr b) = inr (inl (subst (λ w. IsTrue (before w y)) a (all_has (λ w. IsTrue (before z w)) zs h.0 y b)))
ascending_one before (z ∷ zs) h x y (inr a) (inl b) = inr (inr (subst (λ w. IsTrue (before w x)) b (all_has (λ w. IsTrue (before z w)) zs h.0 x a)))
ascending_one before (z ∷ zs) h x y (inr a) (inr b) = ascending_one before zs h.1 x y a b
