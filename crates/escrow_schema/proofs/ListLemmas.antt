-- Lemmas on lists and options that several proofs need.
use Rattle.std.proofs.Common.{◌≡◌, ℕ, suc, ◌+◌, ◌<◌, Bool, true, false, cond, true≢false, Option, Some, None, option_map, List, [], ◌∷◌, ◌++◌, length, drop, get_or, slice_get, sym, ap, subst, ◌∙◌, refl, inl, inr}
use Rattle.std.proofs.Math.Numerals.{add-one}
use Rattle.std.proofs.Math.Seq.{drop-cons}
use Rattle.std.specs.List.{AllByRecursion, list_any, list_all}
use Rattle.std.proofs.lemmas.Bool.{and_cases}
use Rattle.std.proofs.lemmas.List.Folds.{Any-from_list_any, list_all_at}
use Rattle.std.proofs.lemmas.Option.{none-some, same_Some, get_or_from_slice_get, slice_get_read, slice_get_within}

-- what holds for each item of two joined lists holds for each item of the second
pub second_part : {A : Type 0} (P : A → Type 0) (xs ys : List A) → AllByRecursion P (xs ++ ys) → AllByRecursion P ys
second_part P [] ys h = h
second_part P (x ∷ xs) ys h = second_part P xs ys h.1

-- it holds for each item of the first
pub first_part : {A : Type 0} (P : A → Type 0) (xs ys : List A) → AllByRecursion P (xs ++ ys) → AllByRecursion P xs
first_part P [] ys h = tt
first_part P (x ∷ xs) ys h = (h.0, first_part P xs ys h.1)

-- what holds for each item of both lists holds for each item of the joined list
pub both_parts : {A : Type 0} (P : A → Type 0) (xs ys : List A) → AllByRecursion P xs → AllByRecursion P ys → AllByRecursion P (xs ++ ys)
both_parts P [] ys h k = k
both_parts P (x ∷ xs) ys h k = (h.0, both_parts P xs ys h.1 k)

-- a value that exists only if a test holds
pub some_under : {A : Type 0} (b : Bool) (o : Option A) (y : A) → cond b o None ≡ Some y → (b ≡ true) × (o ≡ Some y)
some_under true o y e = (refl, e)
some_under false o y e = absurd (none-some y e)

-- the value that was mapped
pub mapped_some : {A B P : Type 0} (f : A → B) (o : Option A) (y : B) → option_map f o ≡ Some y → ((x : A) → o ≡ Some x → f x ≡ y → P) → P
mapped_some f None y e k = absurd (none-some y e)
mapped_some f (Some x) y e k = k x refl (same_Some (f x) y e)

-- a list, and what may come after it
abbrev pub after : {A : Type 0} → List A → Option (List A) → Option (List A)
after done rest = option_map (λ more. done ++ more) rest

-- nothing comes before the list
pub after_nothing : {A : Type 0} (o : Option (List A)) → after [] o ≡ o
after_nothing None = refl
after_nothing (Some xs) = refl

-- the item at an index is the first one from there on
pub drop_item : {A : Type 0} (xs : List A) (i : ℕ) (x : A) → i < length xs → x ≡ get_or xs i x → drop i xs ≡ x ∷ drop (i + 1) xs
drop_item xs i x within at = rw add-one (subst (λ y. drop i xs ≡ y ∷ drop (suc i) xs) (sym at) (drop-cons xs i x within))

-- if some item passes a test, the item at some index does
pub some_passes : {A : Type 0} (p : A → Bool) (xs : List A) → list_any p xs ≡ true → (x : A) × (k : ℕ) × (slice_get xs k ≡ Some x) × (p x ≡ true)
some_passes p xs e =
    let found = Any-from_list_any p xs e in
    (found.1, found.0, slice_get_read xs (length xs) found.0 found.1 refl found.2 (sym found.3), found.4)

-- if not every item passes, the item at some index fails
pub some_fails : {A : Type 0} (p : A → Bool) (xs : List A) → list_all p xs ≡ false → (x : A) × (k : ℕ) × (slice_get xs k ≡ Some x) × (p x ≡ false)
some_fails p [] e = absurd (true≢false e)
some_fails p (x ∷ xs) e =
    elim (and_cases (p x) (list_all p xs) e) [
      | inl fails ↦ (x, 0, refl, fails)
      | inr later ↦ (let found = some_fails p xs later in (found.0, suc found.1, found.2, found.3))
    ]

-- if the item at an index fails, not every item passes
pub one_fails : {A : Type 0} (p : A → Bool) (xs : List A) (k : ℕ) (x : A) → slice_get xs k ≡ Some x → p x ≡ false → list_all p xs ≡ false
one_fails p xs k x at fails = list_all_at p xs k x (slice_get_within xs k x at) (ap p (get_or_from_slice_get xs k x x at) ∙ fails)
