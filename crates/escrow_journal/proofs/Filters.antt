-- What a filter keeps, and the index of the first item that passes.
use Rattle.std.specs.Prelude.{◌≡◌, ℕ, ◌<◌, ◌≤◌, Bool, true, false, not, cond, List, [], ◌∷◌, length, filter, find, position, Option, Some, None, IsSome, nat_lt, unwrap_or}
use Rattle.std.specs.List.{position_or_len, AllByRecursion}
use Rattle.std.specs.List.Retain.{RetainsInTurn}
use Rattle.std.proofs.Common.{refl, ap, ◌∙◌, subst, arith}
use Rattle.std.proofs.lemmas.Bool.{cond_both}
use Rattle.std.proofs.lemmas.Bool.Decides.{nat_tests}
use Rattle.std.proofs.lemmas.List.Folds.{find_at}
use Rattle.std.proofs.lemmas.Option.{slice_get_past}
use Rattle.std.proofs.lemmas.List.Sums.{prefix_len-le-length}

-- `retain` with a test that changes nothing filters the list
pub filter_from_retain : {X F : Type 0} (R : F → X → Bool → F → X → Type 0) (test : X → Bool) (f : F)
    → ((x : X) (b : Bool) (g : F) (y : X) → R f x b g y → (b ≡ test x) × (g ≡ f) × (y ≡ x))
    → (xs ys : List X) → RetainsInTurn R f xs ys → ys ≡ filter test xs
filter_from_retain R test f says [] ys h = h
filter_from_retain R test f says (x ∷ xs) ys h =
    let said = says x h.0 h.1 h.2 h.3 in
    let later = subst (λ g. RetainsInTurn R g xs h.4) said.1 h.5 in
    let rest = filter_from_retain R test f says xs h.4 later in
    h.6 ∙ (λ i. cond (said.0 i) (said.2 i ∷ rest i) (rest i))

-- a filter is no longer than the list
pub filter_within : {X : Type 0} (p : X → Bool) (xs : List X) → length (filter p xs) ≤ length xs
filter_within p [] = omega arith
filter_within p (x ∷ xs) =
    let rest = filter_within p xs in
    cond_both (p x) (x ∷ filter p xs) (filter p xs) (λ ys. length ys ≤ length (x ∷ xs)) (λ _. omega arith) (λ _. omega arith)

-- a filter that is as long as the list is the list
pub filter_whole : {X : Type 0} (p : X → Bool) (xs : List X) → length (filter p xs) ≡ length xs → filter p xs ≡ xs
filter_whole p [] same = refl
filter_whole p (x ∷ xs) same =
    cond_both (p x) (x ∷ filter p xs) (filter p xs) (λ ys. length ys ≡ length (x ∷ xs) → ys ≡ x ∷ xs)
    (λ _ e. ap (λ ys. x ∷ ys) (filter_whole p xs (omega arith)))
    (λ _ e. let short = filter_within p xs in absurd (omega arith)) same

-- if an item passes, the others are fewer than all
fewer_step : {X : Type 0} (b : Bool) (x : X) (kept xs : List X) (found : Option X) → length kept ≤ length xs → (IsSome found → length kept < length xs)
    → IsSome (cond b (Some x) found) → length (cond (not b) (x ∷ kept) kept) < length (x ∷ xs)
fewer_step true x kept xs found within more here = omega arith
fewer_step false x kept xs found within more here = let fewer = more here in omega arith

pub fewer_others : {X : Type 0} (p : X → Bool) (xs : List X) → IsSome (find p xs) → length (filter (λ x. not (p x)) xs) < length xs
fewer_others p [] found = absurd (cc)
fewer_others p (x ∷ xs) found =
    fewer_step (p x) x (filter (λ y. not (p y)) xs) xs (find p xs) (filter_within (λ y. not (p y)) xs) (fewer_others p xs) found

-- the index of the first item that passes, or the length of the list
at_most : (n end : ℕ) → n ≤ end → unwrap_or (cond (nat_lt n end) (Some n) None) end ≡ n
at_most n end within = grind (arith, nat_tests)

pub place_is : {X : Type 0} (p : X → Bool) (xs : List X) → unwrap_or (position p xs) (length xs) ≡ position_or_len p xs
place_is p xs = at_most (position_or_len p xs) (length xs) (prefix_len-le-length (λ x. not (p x)) xs)

-- an index is that of the first item that passes, and is within the list
found_place : (n end place : ℕ) → cond (nat_lt n end) (Some n) None ≡ Some place → (n ≡ place) × (place < end)
found_place n end place at = (grind (arith, nat_tests), grind (arith, nat_tests))

pub place_inside : {X : Type 0} (p : X → Bool) (xs : List X) (place : ℕ) → position p xs ≡ Some place → (position_or_len p xs ≡ place) × (place < length xs)
place_inside p xs place at = found_place (position_or_len p xs) (length xs) place at

-- if all items pass, the filter keeps the whole list
pub filter_all : {X : Type 0} (p : X → Bool) (xs : List X) → AllByRecursion (λ x. p x ≡ true) xs → filter p xs ≡ xs
filter_all p [] all = refl
filter_all p (x ∷ xs) all = rw all.0 (ap (λ ys. x ∷ ys) (filter_all p xs all.1))

-- then the opposite test keeps none
pub filter_none : {X : Type 0} (p : X → Bool) (xs : List X) → AllByRecursion (λ x. p x ≡ true) xs → filter (λ x. not (p x)) xs ≡ []
filter_none p [] all = refl
filter_none p (x ∷ xs) all = rw all.0 (filter_none p xs all.1)

-- tests that agree on each item keep the same items
pub filter_same : {X : Type 0} (p q : X → Bool) (xs : List X) → AllByRecursion (λ x. p x ≡ q x) xs → filter p xs ≡ filter q xs
filter_same p q [] same = refl
filter_same p q (x ∷ xs) same = let rest = filter_same p q xs same.1 in λ i. cond (same.0 i) (x ∷ rest i) (rest i)

-- such tests leave out the same items
pub filter_others : {X : Type 0} (p q : X → Bool) (xs : List X) → AllByRecursion (λ x. p x ≡ q x) xs → filter (λ x. not (p x)) xs ≡ filter (λ x. not (q x)) xs
filter_others p q [] same = refl
filter_others p q (x ∷ xs) same = let rest = filter_others p q xs same.1 in λ i. cond (not (same.0 i)) (x ∷ rest i) (rest i)

-- such tests find the same item
pub find_same : {X : Type 0} (p q : X → Bool) (xs : List X) → AllByRecursion (λ x. p x ≡ q x) xs → find p xs ≡ find q xs
find_same p q [] same = refl
find_same p q (x ∷ xs) same = let rest = find_same p q xs same.1 in λ i. cond (same.0 i) (Some x) (rest i)

-- if no item has an index, none is found
no_place : (n end : ℕ) → cond (nat_lt n end) (Some n) None ≡ None → end ≤ n
no_place n end at = grind (arith, nat_tests)

pub none_inside : {X : Type 0} (p : X → Bool) (xs : List X) → position p xs ≡ None → find p xs ≡ None
none_inside p xs at = find_at p xs ∙ slice_get_past xs (position_or_len p xs) (no_place (position_or_len p xs) (length xs) at)
