-- Changes of rows, in order of the rows.
use Rattle.std.proofs.Common.{◌≡◌, ℕ, ℤ, suc, ◌+◌, ◌-◌, ◌<◌, Bool, true, false, Equal, List, [], ◌∷◌, ◌++◌, length, map, filter, take, get_or, refl, sym, ap, ◌∙◌, subst, inl, inr, arith, IsSorted}
use Rattle.std.specs.Cmp.{IsTotalOrder}
use Rattle.std.specs.List.{AllByRecursion, AllAdjacentBelow}
use Rattle.std.specs.List.Sorted.{IsStable, ties}
use Rattle.std.specs.Ordering.{is_lt}
use Rattle.std.proofs.lemmas.Bool.{cases_Bool, false≢true}
use Rattle.std.proofs.lemmas.Cmp.{on_total}
use Rattle.std.proofs.lemmas.List.{append-nil, map_more}
use Rattle.std.proofs.lemmas.List.Elements.{filter-append, filter_agree}
use Rattle.sqlite_trees.proofs.ListLemmas.{all_weaker}
use Rattle.escrow_num.specs.declared.reservation.Reservation.{Reservation}
use Rattle.escrow_num.specs.declared.row.Row.{Row}
use Rattle.escrow_num.specs.declared.value.RowName.{RowName}
use Rattle.escrow_num.specs.Order.{same_row, row_cmp}
use Rattle.escrow_num.proofs.Orders.{row_total, row_tied, row_same, same_row_itself, before_trans, not_before, before_itself}
use Rattle.escrow_checks.specs.Form.{all_changed, changed}
use Rattle.escrow_tables.specs.Puts.{changed_by}
use Rattle.escrow_tables.specs.RowChanges.{added_by, by_row, row_of}
use Rattle.escrow_tables.specs.declared.changed_rows.RowChange.{RowChange}
use Rattle.escrow_tables.proofs.Changed.{all_changed_push, changed_nil}

-- a row of a name
abbrev bare : RowName → Row
bare name = record { name = name; amounts = []; plain = [] }

-- the laws of the order of names
pub names_total : IsTotalOrder row_cmp
names_total = on_total bare row_total

names_tied : (a b : RowName) → row_cmp a b ≡ Equal → a ≡ b
names_tied a b tied = row_tied (bare a) (bare b) tied

-- a name comes before another
abbrev IsBefore : RowName → RowName → Type 0
IsBefore a b = is_lt (row_cmp a b) ≡ true

-- names that differ aren't equal in the order
apart_differ : (a b : RowName) → same_row a b ≡ false → ¬ (row_cmp a b ≡ Equal)
apart_differ a b apart = λ tied. false≢true (sym apart ∙ subst (λ (n : RowName). same_row a n ≡ true) (names_tied a b tied) (same_row_itself a))

-- a name that comes before another differs from it
before_apart : (a b : RowName) → IsBefore a b → same_row a b ≡ false
before_apart a b before = elim (cases_Bool (same_row a b)) [
  | inl same ↦ absurd (false≢true (sym (before_itself row_cmp names_total a) ∙ subst (λ (n : RowName). is_lt (row_cmp a n) ≡ true) (sym (row_same a b same)) before))
  | inr apart ↦ apart
]

-- which of two names comes first doesn't matter
same_both : (a b : RowName) → same_row a b ≡ false → same_row b a ≡ false
same_both a b apart = elim (cases_Bool (same_row b a)) [
  | inl same ↦ absurd (false≢true (sym apart ∙ subst (λ (n : RowName). same_row n b ≡ true) (row_same b a same) (same_row_itself b)))
  | inr other ↦ other
]

-- a name that doesn't come before one comes after what comes before that one
before_later : (a b c : RowName) → IsBefore a b → is_lt (row_cmp c b) ≡ false → IsBefore a c
before_later a b c before later = elim (cases_Bool (same_row c b)) [
  | inl same ↦ subst (λ (n : RowName). IsBefore a n) (sym (row_same c b same)) before
  | inr apart ↦ before_trans row_cmp names_total a b c before (not_before row_cmp names_total c b later (apart_differ c b apart))
]

-- changes tie if they are of one row
pub ties_same : (a b : RowChange) → ties (λ x y. is_lt (by_row x y)) a b ≡ same_row (row_of a) (row_of b)
ties_same a b = elim (cases_Bool (same_row (row_of a) (row_of b))) [
  | inl same ↦ (let is = row_same (row_of a) (row_of b) same in
      let self = before_itself row_cmp names_total (row_of a) in
      let forth = subst (λ (n : RowName). is_lt (row_cmp (row_of a) n) ≡ false) is self in
      let back = subst (λ (n : RowName). is_lt (row_cmp n (row_of a)) ≡ false) is self in
      rw (same, forth, back) refl)
  | inr apart ↦ elim (cases_Bool (is_lt (by_row a b))) [
    | inl before ↦ rw (apart, before) refl
    | inr after ↦ (let back = not_before row_cmp names_total (row_of a) (row_of b) after (apart_differ (row_of a) (row_of b) apart) in
        rw (apart, after, back) refl)
  ]
]

-- no change is of a row that comes before that of an earlier one
abbrev pub AreInOrder : List RowChange → Type 0
AreInOrder [] = Unit {0}
AreInOrder (c ∷ changes) = AllByRecursion (λ d. is_lt (by_row d c) ≡ false) changes × AreInOrder changes

-- neighbours of a list without its first item
adjacent_later : (R : RowChange → RowChange → Type 0) (x : RowChange) (xs : List RowChange) (n : ℕ) → AllAdjacentBelow R (x ∷ xs) (suc n) → AllAdjacentBelow R xs n
adjacent_later R x xs n all = λ k d below.
    let e : suc k + 1 ≡ suc (k + 1) = omega arith in
    subst (λ m. R (get_or xs k d) (get_or (x ∷ xs) m d)) e (all (suc k) d (omega (arith, below)))

adjacent_first : (R : RowChange → RowChange → Type 0) (x y : RowChange) (xs : List RowChange) (n : ℕ) → AllAdjacentBelow R (x ∷ y ∷ xs) (suc (suc n)) → R x y
adjacent_first R x y xs n all =
    let e : 0 + 1 ≡ suc 0 = omega arith in
    subst (λ m. R x (get_or (x ∷ y ∷ xs) m x)) e (all 0 x (omega arith))

in_order_by : (changes : List RowChange) → AllAdjacentBelow (λ a b. is_lt (by_row b a) ≡ false) changes (length changes) → AreInOrder changes
in_order_by [] all = tt
in_order_by (c ∷ changes) all = (none_before c changes all, in_order_by changes (adjacent_later (λ a b. is_lt (by_row b a) ≡ false) c changes (length changes) all))
  where
    none_before : (c : RowChange) (changes : List RowChange) → AllAdjacentBelow (λ a b. is_lt (by_row b a) ≡ false) (c ∷ changes) (suc (length changes))
        → AllByRecursion (λ d. is_lt (by_row d c) ≡ false) changes
    none_before c [] all = tt
    none_before c (d ∷ changes) all =
        let next = adjacent_first (λ a b. is_lt (by_row b a) ≡ false) c d changes (length changes) all in
        (next, all_weaker (λ e. is_lt (by_row e d) ≡ false) (λ e. is_lt (by_row e c) ≡ false) (λ e later. after c d e next later) changes (none_before d changes (adjacent_later (λ a b. is_lt (by_row b a) ≡ false) c (d ∷ changes) (suc (length changes)) all)))
      where
        after : (c d e : RowChange) → is_lt (by_row d c) ≡ false → is_lt (by_row e d) ≡ false → is_lt (by_row e c) ≡ false
        after c d e next later = elim (cases_Bool (is_lt (by_row e c))) [
          | inl before ↦ absurd (false≢true (sym later ∙ before_later (row_of e) (row_of c) (row_of d) before next))
          | inr other ↦ other
        ]

pub in_order : (changes : List RowChange) → IsSorted by_row changes → AreInOrder changes
in_order changes sorted = in_order_by changes (λ k d below. sorted k d (omega arith) below)

-- the first changes, of one row, and those behind them
pub own_and_others : (first : RowChange) (own others : List RowChange) → AreInOrder (first ∷ own ++ others)
    → AllAdjacentBelow (λ a b. same_row (row_of a) (row_of b) ≡ true) (first ∷ own ++ others) (suc (length own))
    → (length own < length (own ++ others) → (d : RowChange) → same_row (row_of (get_or (first ∷ own ++ others) (length own) d)) (row_of (get_or (own ++ others) (length own) d)) ≡ false)
    → AllByRecursion (λ c. row_of first ≡ row_of c) own × AllByRecursion (λ c. is_lt (by_row first c) ≡ true) others
own_and_others first [] [] order same end = (tt, tt)
own_and_others first [] (c ∷ others) order same end =
    let apart : same_row (row_of first) (row_of c) ≡ false = end (omega arith) first in
    let before = not_before row_cmp names_total (row_of c) (row_of first) order.0.0 (apart_differ (row_of c) (row_of first) (same_both (row_of first) (row_of c) apart)) in
    (tt, (before, all_weaker _ _ (λ d later. before_later (row_of first) (row_of c) (row_of d) before later) others order.1.0))
own_and_others first (c ∷ own) others order same end =
    let is = row_same (row_of first) (row_of c) (adjacent_first (λ a b. same_row (row_of a) (row_of b) ≡ true) first c (own ++ others) (length own) same) in
    let later = own_and_others c own others order.1 (adjacent_later (λ a b. same_row (row_of a) (row_of b) ≡ true) first (c ∷ own ++ others) (suc (length own)) same) (λ below d. end (omega (arith, below)) d) in (
      (is, all_weaker _ _ (λ d e. is ∙ e) own later.0),
      all_weaker _ _ (λ d before. subst (λ (n : RowName). is_lt (row_cmp n (row_of d)) ≡ true) (sym is) before) others later.1,
    )

-- no change behind some changes is of a row that comes before that of an earlier one
pub in_order_behind : (first others : List RowChange) → AreInOrder (first ++ others) → AreInOrder others
in_order_behind [] others order = order
in_order_behind (c ∷ first) others order = in_order_behind first others order.1

-- one more change to a row
pub added_more : (before : List ℤ) (changes : List RowChange) (i : ℕ) (c : RowChange) → i < length changes → c ≡ get_or changes i c
    → all_changed before (map added_by (take (i + 1) changes)) ≡ changed (all_changed before (map added_by (take i changes))) (added_by c)
added_more before changes i c below at =
    ap (all_changed before) (map_more added_by changes i c below ∙ ap (λ x. map added_by (take i changes) ++ added_by x ∷ []) (sym at))
    ∙ all_changed_push before (map added_by (take i changes)) (added_by c)

-- the changes of one row, among all that are of several
only_changes : (name : RowName) (changes : List RowChange) (before : List ℤ)
    → changed_by (map (λ c. c.reservation.now) changes) name before ≡ all_changed before (map added_by (filter (λ c. same_row name (row_of c)) changes))
only_changes name [] before = refl
only_changes name (c ∷ changes) before = elim (cases_Bool (same_row name (row_of c))) [
  | inl own ↦ rw own (only_changes name changes (changed before (added_by c)))
  | inr apart ↦ rw (apart, changed_nil before) (only_changes name changes before)
]

-- a stable sort keeps what reservations do to each row
pub sorted_changes : (reservations : List Reservation) (changes sorted : List RowChange) → reservations ≡ map (λ c. c.reservation.now) changes → IsStable by_row changes sorted
    → (c : RowChange) (before : List ℤ) → changed_by reservations (row_of c) before ≡ all_changed before (map added_by (filter (λ d. same_row (row_of c) (row_of d)) sorted))
sorted_changes reservations changes sorted are stable c before =
    let agree = filter_agree (ties (λ x y. is_lt (by_row x y)) c) (λ d. same_row (row_of c) (row_of d)) (ties_same c) in
    ap (λ rs. changed_by rs (row_of c) before) are
    ∙ only_changes (row_of c) changes before
    ∙ ap (λ cs. all_changed before (map added_by cs)) (sym (agree changes) ∙ sym (stable c) ∙ agree sorted)

-- a test that no item passes, and one that all pass
filter_none : {A : Type 0} (p : A → Bool) (xs : List A) → AllByRecursion (λ x. p x ≡ false) xs → filter p xs ≡ []
filter_none p [] none = refl
filter_none p (x ∷ xs) none = rw none.0 (filter_none p xs none.1)

filter_each : {A : Type 0} (p : A → Bool) (xs : List A) → AllByRecursion (λ x. p x ≡ true) xs → filter p xs ≡ xs
filter_each p [] each = refl
filter_each p (x ∷ xs) each = rw each.0 (ap (λ ys. x ∷ ys) (filter_each p xs each.1))

-- the changes of one row are those that stand together
pub own_alone : (first : RowChange) (earlier own others : List RowChange) → AllByRecursion (λ c. is_lt (by_row c first) ≡ true) earlier → AllByRecursion (λ c. row_of first ≡ row_of c) own
    → AllByRecursion (λ c. is_lt (by_row first c) ≡ true) others → filter (λ c. same_row (row_of first) (row_of c)) (earlier ++ (own ++ others)) ≡ own
own_alone first earlier own others before same behind =
    let is_own : RowChange → Bool = λ c. same_row (row_of first) (row_of c) in
    let no_earlier = filter_none is_own earlier (all_weaker _ _ (λ c lt. same_both (row_of c) (row_of first) (before_apart (row_of c) (row_of first) lt)) earlier before) in
    let each_own = filter_each is_own own (all_weaker _ _ (λ c e. subst (λ (n : RowName). same_row (row_of first) n ≡ true) e (same_row_itself (row_of first))) own same) in
    let no_others = filter_none is_own others (all_weaker _ _ (λ c lt. before_apart (row_of first) (row_of c) lt) others behind) in
    filter-append is_own earlier (own ++ others)
    ∙ rw no_earlier (filter-append is_own own others ∙ rw (each_own, no_others) (append-nil own))
