-- What is found in a list in which only one item passes.
use Rattle.std.proofs.Common.{◌≡◌, Bool, true, false, cond, ◌&&◌, List, [], ◌∷◌, ◌++◌, filter, flat_map, find, Some, refl, sym, ap, ap₂, ◌∙◌, subst, inl, inr, IsPermutation, slice_get, IsTrue}
use Rattle.std.specs.List.{AllByRecursion}
use Rattle.std.specs.Ordering.{is_lt}
use Rattle.std.proofs.lemmas.Bool.{both_ways, cases_Bool}
use Rattle.std.proofs.lemmas.Grind.{flat_map-append}
use Rattle.sqlite_trees.proofs.ListLemmas.{all_weaker, filter_none, IsPermutation-filter}
use Rattle.sqlite.proofs.Callers.{one_permutation}
use Rattle.escrow_num.specs.declared.row.Row.{Row}
use Rattle.escrow_num.specs.declared.value.RowName.{RowName}
use Rattle.escrow_num.specs.Ascending.{IsAscending}
use Rattle.escrow_num.specs.Order.{same_row, row_cmp}
use Rattle.escrow_num.proofs.Items.{Has, all_has}
use Rattle.escrow_num.proofs.Orders.{by_row, row_total, before_itself, row_same, same_row_itself}
use Rattle.escrow_schema.specs.Rows.{row_before}

-- what is found is the first item that passes
find_first : {A : Type 0} (p : A → Bool) (xs : List A) → find p xs ≡ slice_get (filter p xs) 0
find_first p [] = refl
find_first p (x ∷ xs) =
    elim (p x) as (λ b. cond b (Some x) (find p xs) ≡ slice_get (cond b (x ∷ filter p xs) (filter p xs)) 0) [ true ↦ refl | false ↦ find_first p xs ]

-- the only item that passes is found, in any order of the items
pub find_permutation : {A : Type 0} (p : A → Bool) (xs ys : List A) (x : A) → IsPermutation xs ys → filter p xs ≡ x ∷ [] → find p ys ≡ Some x
find_permutation p xs ys x same only =
    find_first p ys ∙ ap (λ zs. slice_get zs 0) (one_permutation x (filter p ys) (subst (λ zs. IsPermutation zs (filter p ys)) only (IsPermutation-filter p xs ys same)))

-- the items that pass two tests
pub filter_twice : {A : Type 0} (p q : A → Bool) (xs : List A) → filter (λ x. p x && q x) xs ≡ filter q (filter p xs)
filter_twice p q [] = refl
filter_twice p q (x ∷ xs) =
    let more = filter_twice p q xs in
    elim (p x) as (λ b. cond (b && q x) (x ∷ filter (λ y. p y && q y) xs) (filter (λ y. p y && q y) xs) ≡ filter q (cond b (x ∷ filter p xs) (filter p xs)))
    [ true ↦ ap (λ zs. cond (q x) (x ∷ zs) zs) more | false ↦ more ]

pub flat_map_nothing : {A B : Type 0} (f : A → List B) (xs : List A) → AllByRecursion (λ x. f x ≡ []) xs → flat_map f xs ≡ []
flat_map_nothing f [] h = refl
flat_map_nothing f (x ∷ xs) h = ap₂ ◌++◌ h.0 (flat_map_nothing f xs h.1)

-- if a function turns the pieces of each item back into the item, it does so for the whole list
pub flat_map_back : {A B : Type 0} (f : A → List B) (g : B → List A) (xs : List A) → AllByRecursion (λ x. flat_map g (f x) ≡ x ∷ []) xs → flat_map g (flat_map f xs) ≡ xs
flat_map_back f g [] h = refl
flat_map_back f g (x ∷ xs) h = flat_map-append g (f x) (flat_map f xs) ∙ ap₂ ◌++◌ h.0 (flat_map_back f g xs h.1)

other_name : (a b : Row) → row_before a b ≡ true → ¬ (a.name ≡ b.name)
other_name a b h e = both_ways _ (before_itself by_row row_total b) (subst (λ (n : RowName). is_lt (row_cmp n b.name) ≡ true) e h)

not_same : (a b : RowName) → ¬ (a ≡ b) → same_row a b ≡ false
not_same a b other = elim (cases_Bool (same_row a b)) [ inl t ↦ absurd (other (row_same a b t)) | inr f ↦ f ]

-- exactly one of the rows has its name
pub one_row : (rows : List Row) (row : Row) → IsAscending row_before rows → Has rows row → filter (λ other. same_row other.name row.name) rows ≡ row ∷ []
one_row [] row h has = absurd has
one_row (first ∷ rows) row h (inl e) =
    let here : same_row first.name row.name ≡ true = ap (λ (other : Row). same_row other.name row.name) e ∙ same_row_itself row.name in
    let apart : AllByRecursion (λ other. same_row other.name row.name ≡ false) rows =
    all_weaker (λ other. IsTrue (row_before first other)) (λ other. same_row other.name row.name ≡ false)
    (λ other b. not_same other.name row.name (λ same. other_name first other b (ap (λ (r : Row). r.name) e ∙ sym same))) rows h.0 in
    rw here (ap₂ ◌∷◌ e (filter_none _ rows apart))
one_row (first ∷ rows) row h (inr has) =
    let apart = not_same first.name row.name (other_name first row (all_has (λ other. IsTrue (row_before first other)) rows h.0 row has)) in
    rw apart (one_row rows row h.1 has)
