-- Facts about each element of a list, when one element is set and when elements are visited in turn.
use Rattle.std.proofs.Common.{◌≡◌, ◌≢◌, ℕ, zero, suc, ◌+◌, ◌<◌, List, [], ◌∷◌, ◌++◌, length, map, take, get_or, Some, arith, refl, sym, ap, ap₂, subst, ◌∙◌}
use Rattle.std.specs.Prelude.{slice_get, slice_set}
use Rattle.std.specs.List.{AllByRecursion}
use Rattle.std.proofs.lemmas.Option.{slice_get-get_or}

-- what holds of each element after a change holds of the changed one
pub all_after : {A : Type 0} (P : A → Type 0) (xs : List A) (place : ℕ) (x : A) → place < length xs → AllByRecursion P (slice_set xs place x) → P x
all_after P [] place x within all = absurd (omega arith)
all_after P (y ∷ xs) zero x within all = all.0
all_after P (y ∷ xs) (suc place) x within all = all_after P xs place x (omega arith) all.1

-- what holds of each element after a change held before, if it held of the old one
pub all_before : {A : Type 0} (P : A → Type 0) (xs : List A) (place : ℕ) (old x : A) → slice_get xs place ≡ Some old → P old → AllByRecursion P (slice_set xs place x) → AllByRecursion P xs
all_before P [] place old x found held all = all
all_before P (y ∷ xs) zero old x found held all = let same : old ≡ y = cc in (subst P same held, all.1)
all_before P (y ∷ xs) (suc place) old x found held all = (all.0, all_before P xs place old x found held all.1)

-- what holds of each element after a change held of each before, if it held of the changed one whenever it does now
pub all_back : {A : Type 0} (P : A → Type 0) (xs : List A) (place : ℕ) (old x : A) → place < length xs → old ≡ get_or xs place old → (P x → P old) → AllByRecursion P (slice_set xs place x) → AllByRecursion P xs
all_back P xs place old x within is held all =
    all_before P xs place old x (slice_get-get_or xs place old within ∙ ap Some (sym is)) (held (all_after P xs place x within all)) all

-- what holds of the first n elements and of the next one holds of one more
all_next : {A : Type 0} (P : A → Type 0) (xs : List A) (n : ℕ) (x : A) → n < length xs → get_or xs n x ≡ x → P x → AllByRecursion P (take n xs) → AllByRecursion P (take (suc n) xs)
all_next P [] n x within is holds all = absurd (omega arith)
all_next P (y ∷ xs) zero x within is holds all = (subst P (sym is) holds, tt)
all_next P (y ∷ xs) (suc n) x within is holds all = (all.0, all_next P xs n x (omega arith) is holds all.1)

pub all_more : {A : Type 0} (P : A → Type 0) (xs : List A) (n : ℕ) (x : A) → n < length xs → get_or xs n x ≡ x → P x → AllByRecursion P (take n xs) → AllByRecursion P (take (n + 1) xs)
all_more P xs n x within is holds all =
    let next : suc n ≡ n + 1 = omega arith in
    subst (λ (k : ℕ). AllByRecursion P (take k xs)) next (all_next P xs n x within is holds all)

-- what holds of each element and of one appended holds of all
pub all_push : {A : Type 0} (P : A → Type 0) (xs : List A) (x : A) → AllByRecursion P xs → P x → AllByRecursion P (xs ++ x ∷ [])
all_push P [] x all holds = (holds, tt)
all_push P (y ∷ xs) x all holds = (all.0, all_push P xs x all.1 holds)

-- THE ELEMENT AT A PLACE

pub get_set_same : {A : Type 0} (xs : List A) (place : ℕ) (x : A) → place < length xs → slice_get (slice_set xs place x) place ≡ Some x
get_set_same [] place x within = absurd (omega arith)
get_set_same (y ∷ xs) zero x within = refl
get_set_same (y ∷ xs) (suc place) x within = get_set_same xs place x (omega arith)

pub get_set_other : {A : Type 0} (xs : List A) (place other : ℕ) (x : A) → other ≢ place → slice_get (slice_set xs place x) other ≡ slice_get xs other
get_set_other [] place other x apart = refl
get_set_other (y ∷ xs) zero zero x apart = absurd (apart refl)
get_set_other (y ∷ xs) zero (suc other) x apart = refl
get_set_other (y ∷ xs) (suc place) zero x apart = refl
get_set_other (y ∷ xs) (suc place) (suc other) x apart = get_set_other xs place other x (λ same. apart (ap suc same))

-- setting an element to itself changes nothing
pub set_same : {A : Type 0} (xs : List A) (place : ℕ) (x : A) → slice_get xs place ≡ Some x → slice_set xs place x ≡ xs
set_same {A} [] place x found = refl
set_same {A} (y ∷ xs) zero x found = let same : x ≡ y = cc in ap (λ (z : A). z ∷ xs) same
set_same {A} (y ∷ xs) (suc place) x found = ap (λ (zs : List A). y ∷ zs) (set_same xs place x found)

pub get_within : {A : Type 0} (xs : List A) (place : ℕ) → place < length xs → (x : A) × (slice_get xs place ≡ Some x)
get_within [] place within = absurd (omega arith)
get_within (x ∷ xs) zero within = (x, refl)
get_within (x ∷ xs) (suc place) within = get_within xs place (omega arith)

-- the element that has this image
pub get_image : {A B : Type 0} (f : A → B) (xs : List A) (place : ℕ) (y : B) → slice_get (map f xs) place ≡ Some y → (x : A) × (slice_get xs place ≡ Some x) × (f x ≡ y)
get_image f [] place y found = cc
get_image f (x ∷ xs) zero y found = (x, refl, cc)
get_image f (x ∷ xs) (suc place) y found = get_image f xs place y found

-- lists with the same elements are equal
pub same_elements : {A : Type 0} (xs ys : List A) → length xs ≡ length ys → ((place : ℕ) (x y : A) → slice_get xs place ≡ Some x → slice_get ys place ≡ Some y → x ≡ y) → xs ≡ ys
same_elements {A} [] [] count same = refl
same_elements {A} [] (y ∷ ys) count same = absurd (omega (arith, count))
same_elements {A} (x ∷ xs) [] count same = absurd (omega (arith, count))
same_elements {A} (x ∷ xs) (y ∷ ys) count same =
    ap₂ (λ (z : A) (zs : List A). z ∷ zs) (same zero x y refl refl) (same_elements xs ys (omega (arith, count)) (λ place. same (suc place)))
