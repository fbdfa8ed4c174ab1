-- What an edit does to the rows of one tree.
use Rattle.std.proofs.Common.{◌≡◌, ℤ, Bool, true, false, not, ◌||◌, cond, List, [], ◌∷◌, ◌++◌, map, filter, Ordering, Less, Equal, Greater, IsTrue, IsPermutation, refl, sym, ap, ◌∙◌, subst, inl, inr}
use Rattle.std.specs.List.{AllByRecursion, list_any}
use Rattle.std.specs.Ordering.{is_eq, match_ordering, ordering_reverse}
use Rattle.std.proofs.lemmas.Bool.{both_ways, and_parts, or_parts, not-true, cases_Bool}
use Rattle.std.proofs.lemmas.Cmp.{tied_itself}
use Rattle.std.proofs.lemmas.List.Sorted.{IsPermutation-refl, IsPermutation-cons, IsPermutation-sym, IsPermutation-trans, IsPermutation-middle, IsPermutation-append_right}
use Rattle.sqlite_value.specs.declared.value.Value.TheVariants.{Int}
use Rattle.sqlite_value.specs.Order.{Row, value_cmp}
use Rattle.sqlite_value.proofs.OrderLemmas.{value_cmp_total}
use Rattle.sqlite_trees.specs.Tree.{Trees, IsAscending, rowid, has_rowid, put_row, without_rowid}
use Rattle.sqlite_trees.specs.View.{is_int}
use Rattle.sqlite_trees.proofs.ListLemmas.{along_permutation, all-permutation, all-filter, ascending-filter, filter_same}
use Rattle.sqlite_rules.specs.Lists.{Has}
use Rattle.sqlite_rules.specs.Edit.{Edit, id_in, without_all, put_all, is_taken, are_fresh, have_rowids, edited, left_by}
use Rattle.sqlite_rules.specs.Calls.{ids_of}
use Rattle.sqlite_rules.proofs.ListLemmas.{all_has, all_from, some_has, some_from, has_filtered, has_kept}
use Rattle.sqlite_rules.proofs.ProbeLemmas.{has_mapped, mapped_has}
use Rattle.sqlite_rules.proofs.TableLemmas.{int_is}
use Rattle.escrow_cells.specs.Store.{NumbersDiffer}

-- ---- distinct rowids

abbrev pub tied : Row → Row → Bool
tied a b = is_eq (value_cmp (rowid a) (rowid b))

abbrev AreApartFrom : Row → List Row → Type 0
AreApartFrom a = AllByRecursion (λ b. tied a b ≡ false)

abbrev pub AreApart : List Row → Type 0
AreApart = IsAscending (λ a b. tied a b ≡ false)

reversed_eq : (o : Ordering) → is_eq (ordering_reverse o) ≡ is_eq o
reversed_eq Less = refl
reversed_eq Equal = refl
reversed_eq Greater = refl

pub tied_turn : (a b : Row) → tied a b ≡ tied b a
tied_turn a b = ap is_eq (value_cmp_total.antisymm (rowid a) (rowid b)) ∙ reversed_eq (value_cmp (rowid b) (rowid a))

-- among rows with distinct rowids, two with the same rowid are one row
pub one_row : (rows : List Row) (a b : Row) → AreApart rows → Has rows a → Has rows b → tied a b ≡ true → a ≡ b
one_row [] a b up h k tie = absurd h
one_row (r ∷ rows) a b up (inl h) (inl k) tie = h ∙ sym k
one_row (r ∷ rows) a b up (inl h) (inr k) tie = absurd (both_ways _ (all_has (λ x. tied r x ≡ false) rows b up.0 k) (rw h at tie))
one_row (r ∷ rows) a b up (inr h) (inl k) tie = absurd (both_ways _ (all_has (λ x. tied r x ≡ false) rows a up.0 h) (tied_turn r a ∙ rw k at tie))
one_row (r ∷ rows) a b up (inr h) (inr k) tie = one_row rows a b up.1 h k tie

apart_permuted : (xs ys : List Row) → IsPermutation xs ys → ((a : Row) → AreApartFrom a xs → AreApartFrom a ys) × (AreApart xs → AreApart ys)
apart_permuted = along_permutation (λ xs ys. ((a : Row) → AreApartFrom a xs → AreApartFrom a ys) × (AreApart xs → AreApart ys))
    (λ xs. (λ a h. h, λ h. h))
    (λ x xs ys h. (λ a all. (all.0, h.0 a all.1), λ up. (h.0 x up.0, h.1 up.1)))
    (λ x y xs. (λ a all. (all.1.0, (all.0, all.1.1)), λ up. ((tied_turn y x ∙ up.0.0, up.1.0), (up.0.1, up.1.1))))
    (λ xs ys zs p q. (λ a all. q.0 a (p.0 a all), λ up. q.1 (p.1 up)))

pub numbered_permuted : (xs ys : List Row) → IsPermutation xs ys → NumbersDiffer xs → NumbersDiffer ys
numbered_permuted xs ys same n = record { whole = all-permutation (λ r. IsTrue (is_int (rowid r))) xs ys same n.whole; apart = (apart_permuted xs ys same).1 n.apart }

pub numbered_filtered : (p : Row → Bool) (xs : List Row) → NumbersDiffer xs → NumbersDiffer (filter p xs)
numbered_filtered p xs n = record { whole = all-filter (λ r. IsTrue (is_int (rowid r))) p xs n.whole; apart = ascending-filter (λ a b. tied a b ≡ false) p xs n.apart }

numbered_left : (ids : List ℤ) (rows : List Row) → NumbersDiffer rows → NumbersDiffer (without_all rows ids)
numbered_left [] rows n = n
numbered_left (id ∷ ids) rows n = numbered_left ids (without_rowid id rows) (numbered_filtered _ rows n)

-- ---- inserted rows

put_one : (new : Row) (rows : List Row) → is_taken rows new ≡ false → IsPermutation (new ∷ rows) (put_row new rows)
put_one new [] free = IsPermutation-refl _
put_one new (r ∷ rows) free = go (value_cmp (rowid r) (rowid new)) (or_parts _ _ free).0 (put_one new rows (or_parts _ _ free).1)
  where
    go : (o : Ordering) → is_eq o ≡ false → IsPermutation (new ∷ rows) (put_row new rows) → IsPermutation (new ∷ r ∷ rows) (match_ordering o (r ∷ put_row new rows) (new ∷ rows) (new ∷ r ∷ rows))
    go Less other later = IsPermutation-trans _ _ _ (IsPermutation-middle (new ∷ []) r rows) (IsPermutation-cons r _ _ later)
    go Equal other later = absurd (let e = other in cc)
    go Greater other later = IsPermutation-refl _

-- fresh rows are inserted beside the existing rows
pub put_beside : (news rows : List Row) → are_fresh rows news ≡ true → IsPermutation (news ++ rows) (put_all rows news)
put_beside [] rows fresh = IsPermutation-refl rows
put_beside (n ∷ news) rows fresh =
    let parts = and_parts _ _ fresh in
    IsPermutation-trans _ _ _ (IsPermutation-sym _ _ (IsPermutation-middle news n rows))
    (IsPermutation-trans _ _ _ (IsPermutation-append_right news _ _ (put_one n rows (not-true _ parts.0))) (put_beside news (put_row n rows) parts.1))

none_tied : (new : Row) (rows : List Row) → is_taken rows new ≡ false → AreApartFrom new rows
none_tied new [] free = tt
none_tied new (r ∷ rows) free = let parts = or_parts _ _ free in (tied_turn new r ∙ parts.0, none_tied new rows parts.1)

numbered_put : (new : Row) (rows : List Row) → IsTrue (is_int (rowid new)) → is_taken rows new ≡ false → NumbersDiffer rows → NumbersDiffer (put_row new rows)
numbered_put new rows whole free n =
    numbered_permuted (new ∷ rows) (put_row new rows) (put_one new rows free) (record { whole = (whole, n.whole); apart = (none_tied new rows free, n.apart) })

numbered_put_all : (news rows : List Row) → have_rowids news ≡ true → are_fresh rows news ≡ true → NumbersDiffer rows → NumbersDiffer (put_all rows news)
numbered_put_all [] rows whole fresh n = n
numbered_put_all (new ∷ news) rows whole fresh n =
    let keyed = and_parts _ _ whole in
    let parts = and_parts _ _ fresh in
    numbered_put_all news (put_row new rows) keyed.1 parts.1 (numbered_put new rows keyed.0 (not-true _ parts.0) n)

-- the rows of a tree stay numbered over an edit
pub numbered_edited : (db : Trees) (edit : Edit) → have_rowids edit.news ≡ true → are_fresh (left_by db edit) edit.news ≡ true → NumbersDiffer (db edit.table.tree) → NumbersDiffer (edited db edit)
numbered_edited db edit whole fresh n = numbered_put_all edit.news (left_by db edit) whole fresh (numbered_left edit.gone (db edit.table.tree) n)

-- ---- removed rows

abbrev is_listed : List ℤ → Row → Bool
is_listed ids r = list_any (λ id. has_rowid id r) ids

filter_twice : {X : Type 0} (p q : X → Bool) (xs : List X) → filter (λ x. not (p x)) (filter (λ x. not (q x)) xs) ≡ filter (λ x. not (q x || p x)) xs
filter_twice p q [] = refl
filter_twice p q (x ∷ xs) = elim (q x) as (λ b. filter (λ y. not (p y)) (cond (not b) (x ∷ filter (λ y. not (q y)) xs) (filter (λ y. not (q y)) xs)) ≡ cond (not (b || p x)) (x ∷ filter (λ y. not (q y || p y)) xs) (filter (λ y. not (q y || p y)) xs)) [
  | true ↦ filter_twice p q xs
  | false ↦ ap (λ l. cond (not (p x)) (x ∷ l) l) (filter_twice p q xs)
]

left_unlisted : (ids : List ℤ) (rows : List Row) → without_all rows ids ≡ filter (λ r. not (is_listed ids r)) rows
left_unlisted [] [] = refl
left_unlisted [] (r ∷ rows) = ap (λ l. r ∷ l) (left_unlisted [] rows)
left_unlisted (id ∷ ids) rows = left_unlisted ids (without_rowid id rows) ∙ filter_twice (is_listed ids) (has_rowid id) rows

at_its_id : (r : Row) → IsTrue (is_int (rowid r)) → has_rowid (id_in (rowid r)) r ≡ true
at_its_id r whole = rw (int_is (rowid r) whole) (ap is_eq (tied_itself value_cmp_total (Int (id_in (rowid r)))))

has_permuted : {X : Type 0} (xs ys : List X) (x : X) → IsPermutation xs ys → Has xs x → Has ys x
has_permuted xs ys x same = all_has (Has ys) xs x (all-permutation (Has ys) ys xs (IsPermutation-sym _ _ same) (all_from (Has ys) ys (λ e h. h)))

-- the rows found are those that pass a test, each with its rowid
module _ (p : Row → Bool) (f : Row → Row) (rows found : List Row) (keeps : (r : Row) → rowid (f r) ≡ rowid r) (numbered : NumbersDiffer rows) (same : IsPermutation (map f (filter p rows)) found) where
  listed : (r : Row) → Has rows r → p r ≡ true → is_listed (ids_of found) r ≡ true
  listed r h passes =
      let there = mapped_has (λ x. id_in (rowid x)) found (f r) (has_permuted _ found (f r) same (mapped_has f (filter p rows) r (has_kept p rows r h passes))) in
      some_from (λ id. has_rowid id r) (ids_of found) (id_in (rowid r)) (subst (λ v. Has (ids_of found) (id_in v)) (keeps r) there) (at_its_id r (all_has _ rows r numbered.whole h))

  unlisted : (r : Row) → Has rows r → is_listed (ids_of found) r ≡ true → p r ≡ true
  unlisted r h is =
      let got = some_has (λ id. has_rowid id r) (ids_of found) is in
      let of = has_mapped (λ x. id_in (rowid x)) found got.0 got.1 in
      let from = has_mapped f (filter p rows) of.0 (has_permuted found _ of.0 (IsPermutation-sym _ _ same) of.1) in
      let passed = has_filtered p rows from.0 from.1 in
      let id : Int got.0 ≡ rowid from.0 = ap Int (of.2 ∙ ap (λ x. id_in (rowid x)) from.2 ∙ ap id_in (keeps from.0)) ∙ sym (int_is (rowid from.0) (all_has _ rows from.0 numbered.whole passed.0)) in
      let one = one_row rows r from.0 numbered.apart h passed.0 (rw id at got.2) in
      ap p one ∙ passed.1

  same_tests : (r : Row) → Has rows r → not (is_listed (ids_of found) r) ≡ not (p r)
  same_tests r h = elim (cases_Bool (p r)) [
    | inl passes ↦ rw (passes, listed r h passes) refl
    | inr fails ↦ elim (cases_Bool (is_listed (ids_of found) r)) [ inl is ↦ absurd (both_ways _ fails (unlisted r h is)) | inr is ↦ rw (fails, is) refl ]
  ]

  -- the remaining rows, without their rowids, are those that do not pass it
  pub left_is : without_all rows (ids_of found) ≡ filter (λ r. not (p r)) rows
  left_is = left_unlisted (ids_of found) rows ∙ filter_same _ (λ r. not (p r)) rows (all_from (λ r. not (is_listed (ids_of found) r) ≡ not (p r)) rows same_tests)
