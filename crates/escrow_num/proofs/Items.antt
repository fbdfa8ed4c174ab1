-- Items of a list: properties of all of them, and of each.
use Rattle.std.specs.Prelude.{◌≡◌, ◌⊎◌, Bool, true, false, List, [], ◌∷◌, ◌++◌, map, filter, find, Some, None}
use Rattle.std.specs.List.{AllByRecursion}
use Rattle.std.proofs.Common.{inl, inr, sym, ap, ◌∙◌, subst, refl, ℕ, zero, suc, ◌<◌, length, get_or, arith}
use Rattle.std.proofs.lemmas.Bool.{cond_both}

-- x is one of the items
abbrev pub Has : {A : Type 0} → List A → A → Type 0
Has [] x = ⊥
Has (y ∷ ys) x = (y ≡ x) ⊎ Has ys x

-- what holds for all items holds for each of them
pub all_has : {A : Type 0} (P : A → Type 0) (xs : List A) → AllByRecursion P xs → (x : A) → Has xs x → P x
all_has P [] all x h = absurd h
all_has P (y ∷ ys) all x (inl e) = subst P e all.0
all_has P (y ∷ ys) all x (inr h) = all_has P ys all.1 x h

-- what holds for each item holds for all
pub has_all : {A : Type 0} (P : A → Type 0) (xs : List A) → ((x : A) → Has xs x → P x) → AllByRecursion P xs
has_all P [] each = tt
has_all P (y ∷ ys) each = (each y (inl refl), has_all P ys (λ x h. each x (inr h)))

-- an item of a mapped list comes from an item of the list
pub has_map : {A B : Type 0} (f : A → B) (xs : List A) (y : B) → Has (map f xs) y → (x : A) × Has xs x × (f x ≡ y)
has_map f [] y h = absurd h
has_map f (x ∷ xs) y (inl e) = (x, inl refl, e)
has_map f (x ∷ xs) y (inr h) = let found = has_map f xs y h in (found.0, inr found.1, found.2)

-- an item of a filtered list is an item of the list, and passes
pub has_filter : {A : Type 0} (p : A → Bool) (xs : List A) (x : A) → Has (filter p xs) x → Has xs x × (p x ≡ true)
has_filter p [] x h = absurd h
has_filter {A} p (y ∷ ys) x h =
    let later : Has (filter p ys) x → Has (y ∷ ys) x × (p x ≡ true) = λ k. let found = has_filter p ys x k in (inr found.0, found.1) in
    let first : p y ≡ true → Has (y ∷ filter p ys) x → Has (y ∷ ys) x × (p x ≡ true) =
    λ e. elim [ inl same ↦ (inl same, sym (ap p same) ∙ e) | inr k ↦ later k ] in
    cond_both (p y) (y ∷ filter p ys) (filter p ys) (λ zs. Has zs x → Has (y ∷ ys) x × (p x ≡ true)) first (λ e. later) h

-- an item that passes stays in a filtered list
pub filter_has : {A : Type 0} (p : A → Bool) (xs : List A) (x : A) → Has xs x → p x ≡ true → Has (filter p xs) x
filter_has p [] x h e = absurd h
filter_has p (y ∷ ys) x (inl same) e =
    cond_both (p y) (y ∷ filter p ys) (filter p ys) (λ zs. Has zs x) (λ t. inl same) (λ f. absurd (cc (ap p same)))
filter_has p (y ∷ ys) x (inr h) e =
    let k = filter_has p ys x h e in
    cond_both (p y) (y ∷ filter p ys) (filter p ys) (λ zs. Has zs x) (λ t. inr k) (λ f. k)

-- an item of a list with one more is of the list, or is that one
pub has_push : {A : Type 0} (xs : List A) (y x : A) → Has (xs ++ y ∷ []) x → Has xs x ⊎ (y ≡ x)
has_push [] y x (inl e) = inr e
has_push [] y x (inr h) = absurd h
has_push (z ∷ zs) y x (inl e) = inl (inl e)
has_push (z ∷ zs) y x (inr h) = elim (has_push zs y x h) [ inl k ↦ inl (inr k) | inr e ↦ inr e ]

-- the item that is found is in the list, and passes
pub find_has : {A : Type 0} (p : A → Bool) (xs : List A) (x : A) → find p xs ≡ Some x → Has xs x × (p x ≡ true)
find_has p [] x e = absurd (cc)
find_has p (y ∷ ys) x e =
    let here : p y ≡ true → Some y ≡ Some x → Has (y ∷ ys) x × (p x ≡ true) = λ t same. let is : y ≡ x = cc in (inl is, sym (ap p is) ∙ t) in
    let later : find p ys ≡ Some x → Has (y ∷ ys) x × (p x ≡ true) = λ k. let found = find_has p ys x k in (inr found.0, found.1) in
    cond_both (p y) (Some y) (find p ys) (λ o. o ≡ Some x → Has (y ∷ ys) x × (p x ≡ true)) here (λ f. later) e

-- if nothing is found, no item passes
pub find_none : {A : Type 0} (p : A → Bool) (xs : List A) → find p xs ≡ None → (x : A) → Has xs x → p x ≡ false
find_none p [] e x h = absurd h
find_none p (y ∷ ys) e x (inl same) =
    cond_both (p y) (Some y) (find p ys) (λ o. o ≡ None → p x ≡ false) (λ t k. absurd (cc)) (λ f k. sym (ap p same) ∙ f) e
find_none p (y ∷ ys) e x (inr h) =
    cond_both (p y) (Some y) (find p ys) (λ o. o ≡ None → p x ≡ false) (λ t k. absurd (cc)) (λ f k. find_none p ys k x h) e

-- if an item passes, one is found
pub has_find : {A : Type 0} (p : A → Bool) (xs : List A) (x : A) → Has xs x → p x ≡ true → (y : A) × (find p xs ≡ Some y)
has_find p [] x h t = absurd h
has_find {A} p (z ∷ zs) x (inl same) t =
    cond_both (p z) (Some z) (find p zs) (λ o. (y : A) × (o ≡ Some y)) (λ _. (z, refl)) (λ f. absurd (cc (ap p same)))
has_find {A} p (z ∷ zs) x (inr h) t =
    let found = has_find p zs x h t in
    cond_both (p z) (Some z) (find p zs) (λ o. (y : A) × (o ≡ Some y)) (λ _. (z, refl)) (λ _. found)

-- what holds for all items holds for those that pass
pub all_filter : {A : Type 0} (P : A → Type 0) (p : A → Bool) (xs : List A) → AllByRecursion P xs → AllByRecursion P (filter p xs)
all_filter P p xs all = has_all P (filter p xs) (λ x h. all_has P xs all x (has_filter p xs x h).0)

-- what holds for each item holds for the one at an index
pub all_at : {X : Type 0} (P : X → Type 0) (xs : List X) (i : ℕ) (x : X) → i < length xs → x ≡ get_or xs i x → AllByRecursion P xs → P x
all_at P [] i x below at all = absurd (omega arith)
all_at P (y ∷ ys) zero x below at all = subst P (sym at) all.0
all_at P (y ∷ ys) (suc i) x below at all = all_at P ys i x (omega arith) at all.1
