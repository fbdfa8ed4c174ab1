-- A loop that takes one step at each item of a list.
use Rattle.std.proofs.Common.{◌≡◌, ℕ, zero, suc, ◌+◌, ◌<◌, ◌≤◌, List, [], ◌∷◌, length, set, get_or, refl, ◌∙◌, subst, arith, add-one}

-- the items of two lists before a place are one step apart, and the others are equal
abbrev pub Stepped : {A : Type 0} → (A → A → Type 0) → ℕ → List A → List A → Type 0
Stepped Step place [] [] = Unit {0}
Stepped Step place [] (y ∷ ys) = ⊥
Stepped Step place (x ∷ xs) [] = ⊥
Stepped Step zero (x ∷ xs) (y ∷ ys) = (y ≡ x) × Stepped Step zero xs ys
Stepped Step (suc place) (x ∷ xs) (y ∷ ys) = Step x y × Stepped Step place xs ys

-- all items of two lists are one step apart
abbrev pub AllStepped : {A : Type 0} → (A → A → Type 0) → List A → List A → Type 0
AllStepped Step [] [] = Unit {0}
AllStepped Step [] (y ∷ ys) = ⊥
AllStepped Step (x ∷ xs) [] = ⊥
AllStepped Step (x ∷ xs) (y ∷ ys) = Step x y × AllStepped Step xs ys

pub stepped_first : {A : Type 0} (Step : A → A → Type 0) (xs : List A) → Stepped Step 0 xs xs
stepped_first Step [] = tt
stepped_first Step (x ∷ xs) = (refl, stepped_first Step xs)

pub stepped_last : {A : Type 0} (Step : A → A → Type 0) (place : ℕ) (xs ys : List A) → length ys ≤ place → Stepped Step place xs ys → AllStepped Step xs ys
stepped_last Step place [] [] past are = tt
stepped_last Step place [] (y ∷ ys) past are = absurd are
stepped_last Step place (x ∷ xs) [] past are = absurd are
stepped_last Step zero (x ∷ xs) (y ∷ ys) past are = absurd (omega arith)
stepped_last Step (suc place) (x ∷ xs) (y ∷ ys) past are = (are.0, stepped_last Step place xs ys (omega arith) are.1)

-- the item at the place is unchanged so far
pub stepped_at : {A : Type 0} (Step : A → A → Type 0) (place : ℕ) (xs ys : List A) (y : A) → place < length ys → Stepped Step place xs ys → y ≡ get_or ys place y
    → (place < length xs) × (y ≡ get_or xs place y)
stepped_at Step place [] [] y below are at = absurd (omega arith)
stepped_at Step place [] (z ∷ ys) y below are at = absurd are
stepped_at Step place (x ∷ xs) [] y below are at = absurd are
stepped_at Step zero (x ∷ xs) (z ∷ ys) y below are at = (omega arith, at ∙ are.0)
stepped_at Step (suc place) (x ∷ xs) (z ∷ ys) y below are at =
    let rest = stepped_at Step place xs ys y (omega arith) are.1 at in
    (omega (arith, rest.0), rest.1)

stepped_suc : {A : Type 0} (Step : A → A → Type 0) (place : ℕ) (xs ys : List A) (y new : A) → place < length ys → Stepped Step place xs ys → y ≡ get_or ys place y → Step y new
    → Stepped Step (suc place) xs (set ys place new)
stepped_suc Step place [] [] y new below are at step = absurd (omega arith)
stepped_suc Step place [] (z ∷ ys) y new below are at step = absurd are
stepped_suc Step place (x ∷ xs) [] y new below are at step = absurd are
stepped_suc Step zero (x ∷ xs) (z ∷ ys) y new below are at step = (subst (λ w. Step w new) (at ∙ are.0) step, are.1)
stepped_suc Step (suc place) (x ∷ xs) (z ∷ ys) y new below are at step = (are.0, stepped_suc Step place xs ys y new (omega arith) are.1 at step)

-- one more item takes its step
pub stepped_more : {A : Type 0} (Step : A → A → Type 0) (place : ℕ) (xs ys : List A) (y new : A) → place < length ys → Stepped Step place xs ys → y ≡ get_or ys place y → Step y new
    → Stepped Step (place + 1) xs (set ys place new)
stepped_more Step place xs ys y new below are at step = rw add-one (stepped_suc Step place xs ys y new below are at step)
