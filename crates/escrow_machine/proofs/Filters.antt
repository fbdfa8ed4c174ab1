-- The items of a list that pass a test.
use Rattle.std.specs.Prelude.{◌≡◌, Bool, true, false, cond, List, [], ◌∷◌, filter, find, Some, None}
use Rattle.std.proofs.Common.{inl, inr, refl, sym, ap, ◌∙◌}
use Rattle.std.proofs.lemmas.Bool.{cond_both, cond-true, cond-false, false_from_ne_true}
use Rattle.escrow_num.proofs.Items.{Has}

-- filtering by two tests gives the same in either order
pub filter_kept : {A : Type 0} (p : A → Bool) (b : Bool) (x : A) (xs : List A)
    → filter p (cond b (x ∷ xs) xs) ≡ cond b (cond (p x) (x ∷ filter p xs) (filter p xs)) (filter p xs)
filter_kept p true x xs = refl
filter_kept p false x xs = refl

cond_swap : {A : Type 0} (a b : Bool) (x y : A) → cond a (cond b x y) y ≡ cond b (cond a x y) y
cond_swap true true x y = refl
cond_swap true false x y = refl
cond_swap false true x y = refl
cond_swap false false x y = refl

pub filters_commute : {A : Type 0} (p q : A → Bool) (xs : List A) → filter p (filter q xs) ≡ filter q (filter p xs)
filters_commute p q [] = refl
filters_commute {A} p q (x ∷ xs) =
    filter_kept p (q x) x (filter q xs)
    ∙ cond_swap (q x) (p x) (x ∷ filter p (filter q xs)) (filter p (filter q xs))
    ∙ ap (λ (zs : List A). cond (p x) (cond (q x) (x ∷ zs) zs) zs) (filters_commute p q xs)
    ∙ sym (filter_kept q (p x) x (filter p xs))

-- after filtering by a weaker test, the stronger test keeps the same items
pub filter_within_items : {A : Type 0} (p q : A → Bool) (xs : List A) → ((x : A) → Has xs x → p x ≡ true → q x ≡ true) → filter p (filter q xs) ≡ filter p xs
filter_within_items p q [] within = refl
filter_within_items {A} p q (x ∷ xs) within =
    let rest = filter_within_items p q xs (λ y h. within y (inr h)) in
    cond_both (q x) (x ∷ filter q xs) (filter q xs) (λ zs. filter p zs ≡ filter p (x ∷ xs))
    (λ _. ap (λ (zs : List A). cond (p x) (x ∷ zs) zs) rest)
    (λ f. rest ∙ sym (cond-false (p x) (x ∷ filter p xs) (filter p xs) (false_from_ne_true (p x) (λ t. let yes = within x (inl refl) t in absurd (cc)))))

pub filter_within : {A : Type 0} (p q : A → Bool) (xs : List A) → ((x : A) → p x ≡ true → q x ≡ true) → filter p (filter q xs) ≡ filter p xs
filter_within p q xs within = filter_within_items p q xs (λ x _ t. within x t)

-- if every item passes, all are kept; if none passes, none is kept or found
pub filter_all : {A : Type 0} (p : A → Bool) (xs : List A) → ((x : A) → Has xs x → p x ≡ true) → filter p xs ≡ xs
filter_all p [] passes = refl
filter_all {A} p (x ∷ xs) passes =
    cond-true (p x) (x ∷ filter p xs) (filter p xs) (passes x (inl refl)) ∙ ap (λ (zs : List A). x ∷ zs) (filter_all p xs (λ y h. passes y (inr h)))

pub filter_none : {A : Type 0} (p : A → Bool) (xs : List A) → ((x : A) → Has xs x → p x ≡ false) → filter p xs ≡ []
filter_none p [] fails = refl
filter_none p (x ∷ xs) fails =
    cond-false (p x) (x ∷ filter p xs) (filter p xs) (fails x (inl refl)) ∙ filter_none p xs (λ y h. fails y (inr h))

pub none_found : {A : Type 0} (p : A → Bool) (xs : List A) → ((x : A) → Has xs x → p x ≡ false) → find p xs ≡ None
none_found p [] fails = refl
none_found p (x ∷ xs) fails =
    cond-false (p x) (Some x) (find p xs) (fails x (inl refl)) ∙ none_found p xs (λ y h. fails y (inr h))
