-- An item is inserted into a list in its order.
use Rattle.std.specs.Prelude.{◌≡◌, ◌⊎◌, ◌+◌, Bool, true, false, cond, List, [], ◌∷◌, filter, find, length, Some, None, IsTrue}
use Rattle.std.proofs.Common.{inl, inr, ap, subst, refl, arith}
use Rattle.std.proofs.lemmas.Bool.{cond_both, cond-false}
use Rattle.escrow_num.specs.Ascending.{IsAscending}
use Rattle.escrow_num.proofs.Items.{Has, all_has, has_all}

-- puts an item in front of the first one that it is before
abbrev pub put : {A : Type 0} → (A → A → Bool) → A → List A → List A
put before x [] = x ∷ []
put before x (y ∷ ys) = cond (before x y) (x ∷ y ∷ ys) (y ∷ put before x ys)

-- the items are the new one and the others
pub has_put : {A : Type 0} (before : A → A → Bool) (x : A) (xs : List A) (y : A) → Has (put before x xs) y → (x ≡ y) ⊎ Has xs y
has_put before x [] y (inl e) = inl e
has_put before x [] y (inr h) = absurd h
has_put {A} before x (z ∷ zs) y h =
    let later : Has (z ∷ put before x zs) y → (x ≡ y) ⊎ Has (z ∷ zs) y = elim [
      | inl e ↦ inr (inl e)
      | inr k ↦ elim (has_put before x zs y k) [ inl e ↦ inl e | inr l ↦ inr (inr l) ]
    ] in
    cond_both (before x z) (x ∷ z ∷ zs) (z ∷ put before x zs) (λ ws. Has ws y → (x ≡ y) ⊎ Has (z ∷ zs) y) (λ _ k. k) (λ _. later) h

-- the length of a list with one more item, if a test holds
pub length_kept : {A : Type 0} (b : Bool) (x : A) (xs : List A) → length (cond b (x ∷ xs) xs) ≡ length xs + cond b 1 0
length_kept true x xs = omega arith
length_kept false x xs = omega arith

pub length-put : {A : Type 0} (before : A → A → Bool) (x : A) (xs : List A) → length (put before x xs) ≡ length xs + 1
length-put before x [] = refl
length-put before x (z ∷ zs) =
    cond_both (before x z) (x ∷ z ∷ zs) (z ∷ put before x zs) (λ ws. length ws ≡ length (z ∷ zs) + 1)
    (λ _. omega arith) (λ _. omega (arith, length-put before x zs))

-- one more item passes a test, or none
pub length-filter_put : {A : Type 0} (before : A → A → Bool) (p : A → Bool) (x : A) (xs : List A)
    → length (filter p (put before x xs)) ≡ length (filter p xs) + cond (p x) 1 0
length-filter_put before p x [] = length_kept (p x) x []
length-filter_put before p x (z ∷ zs) =
    let in_rest = length-filter_put before p x zs in
    let in_front = length_kept (p x) x (filter p (z ∷ zs)) in
    let first = length_kept (p z) z (filter p zs) in
    let second = length_kept (p z) z (filter p (put before x zs)) in
    cond_both (before x z) (x ∷ z ∷ zs) (z ∷ put before x zs) (λ ws. length (filter p ws) ≡ length (filter p (z ∷ zs)) + cond (p x) 1 0)
    (λ _. in_front) (λ _. omega arith)

-- a new item that fails a test does not change what is found
pub find_put : {A : Type 0} (before : A → A → Bool) (p : A → Bool) (x : A) (xs : List A) → p x ≡ false → find p (put before x xs) ≡ find p xs
find_put before p x [] e = cond-false (p x) (Some x) None e
find_put before p x (z ∷ zs) e =
    cond_both (before x z) (x ∷ z ∷ zs) (z ∷ put before x zs) (λ ws. find p ws ≡ find p (z ∷ zs))
    (λ _. cond-false (p x) (Some x) (find p (z ∷ zs)) e)
    (λ _. ap (λ o. cond (p z) (Some z) o) (find_put before p x zs e))

-- an ascending list stays ascending
pub put_ascending : {A : Type 0} (before : A → A → Bool)
    → ((x y z : A) → before x y ≡ true → before y z ≡ true → before x z ≡ true)
    → (x : A) (xs : List A) → ((y : A) → Has xs y → before x y ≡ false → before y x ≡ true)
    → IsAscending before xs → IsAscending before (put before x xs)
put_ascending before trans x [] other h = (tt, tt)
put_ascending before trans x (z ∷ zs) other h =
    cond_both (before x z) (x ∷ z ∷ zs) (z ∷ put before x zs) (IsAscending before)
    (λ t. ((t, has_all (λ y. IsTrue (before x y)) zs (λ y k. trans x z y t (all_has (λ y. IsTrue (before z y)) zs h.0 y k))), h))
    (λ f. (
      has_all (λ y. IsTrue (before z y)) (put before x zs) (λ y k.
          elim (has_put before x zs y k) [
            | inl e ↦ subst (λ w. IsTrue (before z w)) e (other z (inl refl) f)
            | inr l ↦ all_has (λ y. IsTrue (before z y)) zs h.0 y l
          ]),
      put_ascending before trans x zs (λ y k. other y (inr k)) h.1,
    ))
