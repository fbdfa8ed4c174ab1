-- The items at the indices of lists.
use Rattle.std.proofs.Common.{◌≡◌, ◌≢◌, ◌⊎◌, ℕ, zero, suc, ◌<◌, List, [], ◌∷◌, ◌++◌, length, set, slice_get, Some, None, All, refl, ap, subst, inl, inr, arith}
use Rattle.std.specs.List.{AllByRecursion, AllZip}

pub some_same : {A : Type 0} (x y : A) → Some x ≡ Some y → x ≡ y
some_same x y same = cc

pub none_some : {A : Type 0} (y : A) → None ≡ Some y → ⊥
none_some y same = cc

pub long_set : {A : Type 0} (xs : List A) (i : ℕ) (x : A) → length (set xs i x) ≡ length xs
long_set [] i x = refl
long_set (z ∷ xs) zero x = refl
long_set (z ∷ xs) (suc i) x = ap suc (long_set xs i x)

-- the item at an index after one was written
pub set_cases : {A : Type 0} (xs : List A) (i j : ℕ) (x y : A) → slice_get (set xs i x) j ≡ Some y → ((j ≡ i) × (x ≡ y)) ⊎ ((j ≢ i) × (slice_get xs j ≡ Some y))
set_cases [] i j x y e = absurd (none_some y e)
set_cases (z ∷ xs) zero zero x y e = inl (refl, some_same x y e)
set_cases (z ∷ xs) zero (suc j) x y e = inr ((λ h. omega arith), e)
set_cases (z ∷ xs) (suc i) zero x y e = inr ((λ h. omega arith), e)
set_cases (z ∷ xs) (suc i) (suc j) x y e = further (set_cases xs i j x y e) where
  further : ((j ≡ i) × (x ≡ y)) ⊎ ((j ≢ i) × (slice_get xs j ≡ Some y)) → ((suc j ≡ suc i) × (x ≡ y)) ⊎ ((suc j ≢ suc i) × (slice_get xs j ≡ Some y))
  further (inl h) = inl (ap suc h.0, h.1)
  further (inr h) = let apart = h.0 in inr ((λ same. apart (omega arith)), h.1)

-- the item written at an index is there
pub set_here : {A : Type 0} (xs : List A) (i : ℕ) (x : A) → i < length xs → slice_get (set xs i x) i ≡ Some x
set_here [] i x below = absurd (omega (arith, below))
set_here (z ∷ xs) zero x below = refl
set_here (z ∷ xs) (suc i) x below = set_here xs i x (omega (arith, below))

-- there is an item at each index below the length, and none elsewhere
pub at_below : {A : Type 0} (xs : List A) (i : ℕ) → i < length xs → (x : A) × (slice_get xs i ≡ Some x)
at_below [] i below = absurd (omega (arith, below))
at_below (x ∷ xs) zero below = (x, refl)
at_below (x ∷ xs) (suc i) below = at_below xs i (omega (arith, below))

pub below_at : {A : Type 0} (xs : List A) (i : ℕ) (x : A) → slice_get xs i ≡ Some x → i < length xs
below_at [] i x e = absurd (none_some x e)
below_at (z ∷ xs) zero x e = omega arith
below_at (z ∷ xs) (suc i) x e = let more = below_at xs i x e in omega arith

-- the item at the same index of another list
pub beside : {A B : Type 0} (R : A → B → Type 0) (xs : List A) (ys : List B) (i : ℕ) (x : A) → AllZip R xs ys → slice_get xs i ≡ Some x → (y : B) × ((slice_get ys i ≡ Some y) × R x y)
beside R [] ys i x all e = absurd (none_some x e)
beside R (z ∷ xs) [] i x none e = absurd none
beside R (z ∷ xs) (w ∷ ys) zero x all e = (w, (refl, subst (λ a. R a w) (some_same z x e) all.0))
beside R (z ∷ xs) (w ∷ ys) (suc i) x all e = beside R xs ys i x all.1 e

-- one more pair
pub zip_one : {A B : Type 0} (R : A → B → Type 0) (xs : List A) (ys : List B) (x : A) (y : B) → AllZip R xs ys → R x y → AllZip R (xs ++ x ∷ []) (ys ++ y ∷ [])
zip_one R [] [] x y all one = (one, tt)
zip_one R [] (z ∷ ys) x y none one = absurd none
zip_one R (w ∷ xs) [] x y none one = absurd none
zip_one R (w ∷ xs) (z ∷ ys) x y all one = (all.0, zip_one R xs ys x y all.1 one)

-- items related index by index are related by any weaker relation
pub zip_as : {A B : Type 0} (R T : A → B → Type 0) → ((x : A) (y : B) → R x y → T x y) → (xs : List A) (ys : List B) → AllZip R xs ys → AllZip T xs ys
zip_as R T so [] [] all = tt
zip_as R T so [] (y ∷ ys) none = absurd none
zip_as R T so (x ∷ xs) [] none = absurd none
zip_as R T so (x ∷ xs) (y ∷ ys) all = (so x y all.0, zip_as R T so xs ys all.1)

-- both lists have the same length
pub zip_long : {A B : Type 0} (R : A → B → Type 0) (xs : List A) (ys : List B) → AllZip R xs ys → length xs ≡ length ys
zip_long R [] [] all = refl
zip_long R [] (y ∷ ys) none = absurd none
zip_long R (x ∷ xs) [] none = absurd none
zip_long R (x ∷ xs) (y ∷ ys) all = ap suc (zip_long R xs ys all.1)

-- what holds for all items, by recursion and by index
pub all_places : {A : Type 0} (P : A → Type 0) (xs : List A) → AllByRecursion P xs → All P xs
all_places P [] all = λ i d below. absurd (omega (arith, below))
all_places P (x ∷ xs) all = place (all_places P xs all.1) where
  place : All P xs → All P (x ∷ xs)
  place more zero d below = all.0
  place more (suc i) d below = more i d (omega (arith, below))

pub all_parts : {A : Type 0} (P : A → Type 0) (xs : List A) → All P xs → AllByRecursion P xs
all_parts P [] all = tt
all_parts P (x ∷ xs) all = (all zero x (omega arith), all_parts P xs (λ i d below. all (suc i) d (omega (arith, below))))

-- what holds for all items holds for the one at an index
pub all_at : {A : Type 0} (P : A → Type 0) (xs : List A) (i : ℕ) (x : A) → AllByRecursion P xs → slice_get xs i ≡ Some x → P x
all_at P [] i x all e = absurd (none_some x e)
all_at P (y ∷ xs) zero x all e = subst P (some_same y x e) all.0
all_at P (y ∷ xs) (suc i) x all e = all_at P xs i x all.1 e

-- what holds for all items holds for the first ones
pub all_front : {A : Type 0} (P : A → Type 0) (xs ys : List A) → AllByRecursion P (xs ++ ys) → AllByRecursion P xs
all_front P [] ys all = tt
all_front P (x ∷ xs) ys all = (all.0, all_front P xs ys all.1)

-- what holds for the item at each index holds for all
pub all_of_each : {A : Type 0} (P : A → Type 0) (xs : List A) → ((i : ℕ) (x : A) → slice_get xs i ≡ Some x → P x) → AllByRecursion P xs
all_of_each P [] each = tt
all_of_each P (x ∷ xs) each = (each zero x refl, all_of_each P xs (λ i y at. each (suc i) y at))
