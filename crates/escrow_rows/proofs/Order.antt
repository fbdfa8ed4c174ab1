-- Rows in any order, sorted.
use Rattle.std.proofs.Common.{◌≡◌, ◌⊎◌, Bool, true, false, cond, List, [], ◌∷◌, refl, sym, ap, ◌∙◌, inl, inr, IsPermutation}
use Rattle.std.specs.List.{AllByRecursion}
use Rattle.std.specs.Prelude.{IsTrue}
use Rattle.std.proofs.lemmas.Bool.{both_ways, cases_Bool}
use Rattle.sqlite_trees.proofs.ListLemmas.{all_weaker, along_permutation}
use Rattle.escrow_num.specs.declared.row.Row.{Row}
use Rattle.escrow_num.specs.Ascending.{IsAscending}
use Rattle.escrow_num.proofs.Orders.{by_row, row_total, before_trans, before_itself}
use Rattle.escrow_num.proofs.Put.{put}
use Rattle.escrow_schema.specs.Rows.{row_before, with_row}
use Rattle.escrow_rows.specs.View.{sorted_rows}

module _ {A : Type 0} (before : A → A → Bool) (trans : (x y z : A) → before x y ≡ true → before y z ≡ true → before x z ≡ true) (itself : (x : A) → before x x ≡ false) where
  -- the sorted items: each is inserted into those after it
  abbrev pub sorted : List A → List A
  sorted [] = []
  sorted (x ∷ xs) = put before x (sorted xs)

  -- two items differ: one comes before the other
  abbrev Differ : A → A → Type 0
  Differ x y = IsTrue (before x y) ⊎ IsTrue (before y x)

  turned : (x y : A) → Differ x y → Differ y x
  turned x y = elim [ inl h ↦ inr h | inr h ↦ inl h ]

  -- each item differs from every later one
  abbrev AllDiffer : List A → Type 0
  AllDiffer [] = Unit {0}
  AllDiffer (x ∷ xs) = AllByRecursion (Differ x) xs × AllDiffer xs

  one_way : (x y : A) → before x y ≡ true → before y x ≡ false
  one_way x y h = elim (cases_Bool (before y x)) [ inl back ↦ absurd (both_ways _ (itself x) (trans x y x h back)) | inr not_back ↦ not_back ]

  put_here : (x y : A) (zs : List A) → before x y ≡ true → put before x (y ∷ zs) ≡ x ∷ y ∷ zs
  put_here x y zs h = rw h refl

  put_past : (x y : A) (zs : List A) → before x y ≡ false → put before x (y ∷ zs) ≡ y ∷ put before x zs
  put_past x y zs h = rw h refl

  -- two items that differ may be inserted in either order
  exchange : (x y : A) (zs : List A) → before x y ≡ true → put before x (put before y zs) ≡ put before y (put before x zs)
  exchange x y [] h = put_here x y [] h ∙ sym (put_past y x [] (one_way x y h))
  exchange x y (z ∷ zs) h =
      let after : put before y (x ∷ z ∷ zs) ≡ x ∷ put before y (z ∷ zs) = put_past y x (z ∷ zs) (one_way x y h) in
      elim (cases_Bool (before y z)) [
        | inl yz ↦
            let xz = trans x y z h yz in
            ap (put before x) (put_here y z zs yz) ∙ put_here x y (z ∷ zs) h ∙ sym (ap (put before y) (put_here x z zs xz) ∙ after ∙ ap (λ ws. x ∷ ws) (put_here y z zs yz))
        | inr zy ↦ elim (cases_Bool (before x z)) [
          | inl xz ↦
              ap (put before x) (put_past y z zs zy) ∙ put_here x z (put before y zs) xz
              ∙ sym (ap (put before y) (put_here x z zs xz) ∙ after ∙ ap (λ ws. x ∷ ws) (put_past y z zs zy))
          | inr zx ↦
              ap (put before x) (put_past y z zs zy) ∙ put_past x z (put before y zs) zx ∙ ap (λ ws. z ∷ ws) (exchange x y zs h)
              ∙ sym (ap (put before y) (put_past x z zs zx) ∙ put_past y z (put before x zs) zy)
        ]
      ]

  exchanged : (x y : A) (zs : List A) → Differ x y → put before x (put before y zs) ≡ put before y (put before x zs)
  exchanged x y zs = elim [ inl h ↦ exchange x y zs h | inr h ↦ sym (exchange y x zs h) ]

  -- if an item differs from all of one list, it differs from all of the other; if the first list's items differ, so do
  -- the second's, and both are sorted alike
  record Alike (xs ys : List A) : Type 0 where
    each : (x : A) → AllByRecursion (Differ x) xs → AllByRecursion (Differ x) ys
    all : AllDiffer xs → AllDiffer ys
    order : AllDiffer xs → sorted xs ≡ sorted ys

  alike : (xs ys : List A) → IsPermutation xs ys → Alike xs ys
  alike = along_permutation Alike
      (λ xs. record { each = λ x h. h; all = λ h. h; order = λ h. refl })
      (λ x xs ys same. record {
        each = λ y h. (h.0, same.each y h.1);
        all = λ h. (same.each x h.0, same.all h.1);
        order = λ h. ap (put before x) (same.order h.1);
      })
      (λ x y xs. record {
        each = λ z h. let rest = h.1 in (rest.0, (h.0, rest.1));
        all = λ h. let x_differs = h.0 in let rest = h.1 in ((turned x y x_differs.0, rest.0), (x_differs.1, rest.1));
        order = λ h. exchanged x y (sorted xs) h.0.0;
      })
      (λ xs ys zs first then. record {
        each = λ x h. then.each x (first.each x h);
        all = λ h. then.all (first.all h);
        order = λ h. first.order h ∙ then.order (first.all h);
      })

  ascending_differ : (xs : List A) → IsAscending before xs → AllDiffer xs
  ascending_differ [] h = tt
  ascending_differ (x ∷ xs) h = (all_weaker (λ y. IsTrue (before x y)) (Differ x) (λ y b. inl b) xs h.0, ascending_differ xs h.1)

  put_first : (x : A) (xs : List A) → AllByRecursion (λ y. IsTrue (before x y)) xs → put before x xs ≡ x ∷ xs
  put_first x [] h = refl
  put_first x (y ∷ ys) h = rw h.0 refl

  sorted_already : (xs : List A) → IsAscending before xs → sorted xs ≡ xs
  sorted_already [] h = refl
  sorted_already (x ∷ xs) h = ap (put before x) (sorted_already xs h.1) ∙ put_first x xs h.0

  -- items in any order, sorted
  pub sorted_permutation : (xs ys : List A) → IsAscending before xs → IsPermutation xs ys → sorted ys ≡ xs
  sorted_permutation xs ys h same = sym ((alike xs ys same).order (ascending_differ xs h)) ∙ sorted_already xs h

with_row_put : (row : Row) (rows : List Row) → with_row row rows ≡ put row_before row rows
with_row_put row [] = refl
with_row_put row (other ∷ rest) = ap (λ zs. cond (row_before row other) (row ∷ other ∷ rest) (other ∷ zs)) (with_row_put row rest)

rows_trans : (x y z : Row) → row_before x y ≡ true → row_before y z ≡ true → row_before x z ≡ true
rows_trans = before_trans by_row row_total

rows_itself : (x : Row) → row_before x x ≡ false
rows_itself = before_itself by_row row_total

in_order_sorted : (rows : List Row) → sorted_rows rows ≡ sorted row_before rows_trans rows_itself rows
in_order_sorted [] = refl
in_order_sorted (row ∷ rows) = with_row_put row (sorted_rows rows) ∙ ap (put row_before row) (in_order_sorted rows)

-- rows in any order, sorted
pub in_order_permutation : (rows others : List Row) → IsAscending row_before rows → IsPermutation rows others → sorted_rows others ≡ rows
in_order_permutation rows others h same = in_order_sorted others ∙ sorted_permutation row_before rows_trans rows_itself rows others h same
