-- Changes added to amounts, in any order.
use Rattle.std.specs.Prelude.{◌≡◌, ℤ, ◌+ℤ◌, Bool, true, false, cond, not, List, [], ◌∷◌, ◌++◌, map, filter}
use Rattle.std.proofs.Common.{inl, inr, sym, ap, ap₂, ◌∙◌, refl, arith}
use Rattle.std.proofs.lemmas.Int.{ints}
use Rattle.escrow_checks.specs.Form.{changed, all_changed}
use Rattle.escrow_num.proofs.Items.{Has}
use Rattle.escrow_machine.proofs.Choices.{IsChoice}

-- no changes change nothing
pub changed_nil : (amounts : List ℤ) → changed amounts [] ≡ amounts
changed_nil [] = refl
changed_nil (a ∷ rest) = refl

-- two changes add up to the same in either order
pub changed_comm : (amounts xs ys : List ℤ) → changed (changed amounts xs) ys ≡ changed (changed amounts ys) xs
changed_comm [] xs ys = refl
changed_comm (a ∷ rest) [] [] = refl
changed_comm (a ∷ rest) [] (y ∷ ys) = refl
changed_comm (a ∷ rest) (x ∷ xs) [] = refl
changed_comm (a ∷ rest) (x ∷ xs) (y ∷ ys) =
    let heads : (a +ℤ x) +ℤ y ≡ (a +ℤ y) +ℤ x = omega (arith, ints) in
    ap₂ (λ (z : ℤ) (zs : List ℤ). z ∷ zs) heads (changed_comm rest xs ys)

-- changes made first may be made last
pub all_changed_later : (amounts changes : List ℤ) (chosen : List (List ℤ))
    → all_changed (changed amounts changes) chosen ≡ changed (all_changed amounts chosen) changes
all_changed_later amounts changes [] = refl
all_changed_later amounts changes (other ∷ chosen) =
    ap (λ zs. all_changed zs chosen) (changed_comm amounts changes other) ∙ all_changed_later (changed amounts other) changes chosen

-- changes made last may be made first
pub all_changed_push : (amounts changes : List ℤ) (chosen : List (List ℤ))
    → all_changed amounts (chosen ++ changes ∷ []) ≡ all_changed (changed amounts changes) chosen
all_changed_push amounts changes [] = refl
all_changed_push amounts changes (other ∷ chosen) =
    all_changed_push (changed amounts other) changes chosen ∙ ap (λ zs. all_changed zs chosen) (changed_comm amounts other changes)

-- lists without changes change nothing
pub all_changed_none : {A : Type 0} (f : A → List ℤ) (amounts : List ℤ) (chosen : List A)
    → ((x : A) → Has chosen x → f x ≡ []) → all_changed amounts (map f chosen) ≡ amounts
all_changed_none f amounts [] none = refl
all_changed_none f amounts (x ∷ chosen) none =
    let first : changed amounts (f x) ≡ amounts = ap (changed amounts) (none x (inl refl)) ∙ changed_nil amounts in
    ap (λ zs. all_changed zs (map f chosen)) first ∙ all_changed_none f amounts chosen (λ y h. none y (inr h))

-- the changes of some items and then of others are those of one choice from a list
abbrev pub IsMerged : {A : Type 0} → (A → List ℤ) → List A → List A → List A → Type 0
IsMerged {A} f first chosen xs = (whole : List A) × IsChoice xs whole
    × ((amounts : List ℤ) → all_changed (all_changed amounts (map f first)) (map f chosen) ≡ all_changed amounts (map f whole))

-- one more item, which is one of the first ones or is not
merge_step : {A : Type 0} (f : A → List ℤ) (x : A) (b : Bool) (first second xs : List A)
    → ((chosen : List A) → IsChoice second chosen → IsMerged f first chosen xs)
    → (chosen : List A) → IsChoice (cond (not b) (x ∷ second) second) chosen → IsMerged f (cond b (x ∷ first) first) chosen (x ∷ xs)
merge_step f x true first second xs merge chosen h =
    let m = merge chosen h in
    (x ∷ m.0, inr (m.0, m.1, refl), λ amounts. m.2 (changed amounts (f x)))
merge_step f x false first second xs merge chosen (inl h) =
    let m = merge chosen h in
    (m.0, inl m.1, m.2)
merge_step f x false first second xs merge chosen (inr h) =
    let m = merge h.0 h.1 in (
      x ∷ m.0,
      inr (m.0, m.1, refl),
      λ amounts.
          ap (λ zs. all_changed (all_changed amounts (map f first)) (map f zs)) (sym h.2)
          ∙ ap (λ zs. all_changed zs (map f h.0)) (sym (all_changed_later amounts (f x) (map f first)))
          ∙ m.2 (changed amounts (f x)),
    )

-- the changes of all items that pass a test, then of a choice of the others, are those of one choice
pub merge_choice : {A : Type 0} (f : A → List ℤ) (p : A → Bool) (xs chosen : List A)
    → IsChoice (filter (λ x. not (p x)) xs) chosen → IsMerged f (filter p xs) chosen xs
merge_choice f p [] chosen h = ([], refl, λ amounts. ap (λ zs. all_changed amounts (map f zs)) (sym h))
merge_choice f p (x ∷ xs) chosen h =
    merge_step f x (p x) (filter p xs) (filter (λ y. not (p y)) xs) xs (merge_choice f p xs) chosen h
