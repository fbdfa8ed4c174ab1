-- The laws of the orders of values, rows and names.
use Rattle.std.specs.Prelude.{◌≡◌, ℕ, true, false, List, [], ◌∷◌, bytes_eq}
use Rattle.std.specs.Cmp.{IsTotalOrder}
use Rattle.std.specs.Cmp.Lexicographic.{slice_cmp}
use Rattle.std.specs.Ordering.{nat_cmp, is_lt, ordering_then, ordering_reverse}
use Rattle.std.specs.declared.cmp.Ordering.{Ordering}
use Rattle.std.specs.declared.cmp.Ordering.TheVariants.{Less, Equal, Greater}
use Rattle.std.proofs.Common.{sym, ap, ap₂, refl}
use Rattle.std.proofs.lemmas.Bool.{and_parts, and_from}
use Rattle.std.proofs.lemmas.Bool.Decides.{Decides-int_eq}
use Rattle.std.proofs.lemmas.Cmp.{nat_list_cmp_total, int_cmp_total, then_total, on_total, tied_itself, ranked, int_ranked}
use Rattle.std.proofs.lemmas.Slice.Eq.{bytes_eq-Decides}
use Rattle.escrow_num.specs.declared.value.Value.{Value}
use Rattle.escrow_num.specs.declared.value.Value.TheVariants.{Number, Text}
use Rattle.escrow_num.specs.declared.value.RowName.{RowName}
use Rattle.escrow_num.specs.declared.row.Row.{Row}
use Rattle.escrow_num.specs.Order.{value_eq, value_cmp, same_row, row_cmp}

-- the laws of the order of values
value_antisymm : (x y : Value) → value_cmp x y ≡ ordering_reverse (value_cmp y x)
value_antisymm (Number a) (Number b) = int_cmp_total.antisymm a b
value_antisymm (Number a) (Text b) = refl
value_antisymm (Text a) (Number b) = refl
value_antisymm (Text a) (Text b) = nat_list_cmp_total.antisymm a b

value_trans : (x y z : Value) → value_cmp x y ≡ Less → value_cmp y z ≡ Less → value_cmp x z ≡ Less
value_trans (Number a) (Number b) (Number c) p q = int_cmp_total.trans a b c p q
value_trans (Number a) (Number b) (Text c) p q = refl
value_trans (Number a) (Text b) (Number c) p q = absurd (cc)
value_trans (Number a) (Text b) (Text c) p q = refl
value_trans (Text a) (Number b) z p q = absurd (cc)
value_trans (Text a) (Text b) (Number c) p q = absurd (cc)
value_trans (Text a) (Text b) (Text c) p q = nat_list_cmp_total.trans a b c p q

value_congr : (x y z : Value) → value_cmp x y ≡ Equal → value_cmp x z ≡ value_cmp y z
value_congr (Number a) (Number b) (Number c) p = int_cmp_total.congr a b c p
value_congr (Number a) (Number b) (Text c) p = refl
value_congr (Number a) (Text b) z p = absurd (cc)
value_congr (Text a) (Number b) z p = absurd (cc)
value_congr (Text a) (Text b) (Number c) p = refl
value_congr (Text a) (Text b) (Text c) p = nat_list_cmp_total.congr a b c p

pub value_total : IsTotalOrder value_cmp
value_total = record { antisymm = value_antisymm; trans = value_trans; congr = value_congr }

-- the order of rows
abbrev pub by_row : Row → Row → Ordering
by_row a b = row_cmp a.name b.name

pub row_total : IsTotalOrder by_row
row_total = on_total (λ (r : Row). r.name) (then_total (on_total (λ (n : RowName). n.table) nat_list_cmp_total) (on_total (λ (n : RowName). n.key) value_total))

-- `is_lt` is true only for `Less`
is_lt_less : (o : Ordering) → is_lt o ≡ true → o ≡ Less
is_lt_less Less e = refl
is_lt_less Equal e = absurd (cc)
is_lt_less Greater e = absurd (cc)

-- before is transitive
pub before_trans : {K : Type 0} (R : K → K → Ordering) → IsTotalOrder R → (x y z : K) → is_lt (R x y) ≡ true → is_lt (R y z) ≡ true → is_lt (R x z) ≡ true
before_trans R total x y z p q = ap is_lt (total.trans x y z (is_lt_less (R x y) p) (is_lt_less (R y z) q))

-- of two different items, if the first is not before the second, the second is before the first
pub not_before : {K : Type 0} (R : K → K → Ordering) → IsTotalOrder R → (x y : K) → is_lt (R x y) ≡ false → ¬ (R x y ≡ Equal) → is_lt (R y x) ≡ true
not_before R total x y p other = at (R x y) p other (total.antisymm y x)
  where
    at : (o : Ordering) → is_lt o ≡ false → ¬ (o ≡ Equal) → R y x ≡ ordering_reverse o → is_lt (R y x) ≡ true
    at Less f differ e = absurd (cc)
    at Equal f differ e = absurd (differ refl)
    at Greater f differ e = ap is_lt e

-- no item is before itself
pub before_itself : {K : Type 0} (R : K → K → Ordering) → IsTotalOrder R → (x : K) → is_lt (R x x) ≡ false
before_itself R total x = ap is_lt (tied_itself total x)

-- if an order of two parts gives `Equal`, both parts do
both_equal : (o rest : Ordering) → ordering_then o rest ≡ Equal → (o ≡ Equal) × (rest ≡ Equal)
both_equal Less rest e = absurd (cc)
both_equal Equal rest e = (refl, e)
both_equal Greater rest e = absurd (cc)

-- names that compare as equal are the same
pub list_tied : (xs ys : List ℕ) → slice_cmp nat_cmp xs ys ≡ Equal → xs ≡ ys
list_tied [] [] e = refl
list_tied [] (y ∷ ys) e = absurd (cc)
list_tied (x ∷ xs) [] e = absurd (cc)
list_tied (x ∷ xs) (y ∷ ys) e =
    let parts = both_equal (nat_cmp x y) (slice_cmp nat_cmp xs ys) e in
    ap₂ (λ (n : ℕ) (ns : List ℕ). n ∷ ns) (ranked x y Equal (sym parts.0)) (list_tied xs ys parts.1)

value_tied : (x y : Value) → value_cmp x y ≡ Equal → x ≡ y
value_tied (Number a) (Number b) e = ap Number (int_ranked a b Equal (sym e))
value_tied (Number a) (Text b) e = absurd (cc)
value_tied (Text a) (Number b) e = absurd (cc)
value_tied (Text a) (Text b) e = ap Text (list_tied a b e)

-- names of rows with equal parts are the same
same_parts : (a b : RowName) → a.table ≡ b.table → a.key ≡ b.key → a ≡ b
same_parts a b tables keys = ap₂ (λ (t : List ℕ) (k : Value). record { table = t; key = k }) tables keys

-- rows that compare as equal have the same name
pub row_tied : (x y : Row) → by_row x y ≡ Equal → x.name ≡ y.name
row_tied x y e =
    let parts = both_equal (slice_cmp nat_cmp x.name.table y.name.table) (value_cmp x.name.key y.name.key) e in
    same_parts x.name y.name (list_tied x.name.table y.name.table parts.0) (value_tied x.name.key y.name.key parts.1)

-- values that pass the test of equality are the same
pub value_same : (x y : Value) → value_eq x y ≡ true → x ≡ y
value_same (Number a) (Number b) e = ap Number ((Decides-int_eq a b).0 e)
value_same (Number a) (Text b) e = absurd (cc)
value_same (Text a) (Number b) e = absurd (cc)
value_same (Text a) (Text b) e = ap Text ((bytes_eq-Decides a b).0 e)

pub same_value : (x : Value) → value_eq x x ≡ true
same_value (Number a) = (Decides-int_eq a a).1 refl
same_value (Text a) = (bytes_eq-Decides a a).1 refl

-- names that pass the test are the same, and each name passes with itself
pub name_same : (xs ys : List ℕ) → bytes_eq xs ys ≡ true → xs ≡ ys
name_same xs ys e = (bytes_eq-Decides xs ys).0 e

pub same_name : (xs : List ℕ) → bytes_eq xs xs ≡ true
same_name xs = (bytes_eq-Decides xs xs).1 refl

-- names of rows that pass the test are the same, and each passes with itself
pub row_same : (a b : RowName) → same_row a b ≡ true → a ≡ b
row_same a b e =
    let parts = and_parts (bytes_eq a.table b.table) (value_eq a.key b.key) e in
    same_parts a b (name_same a.table b.table parts.0) (value_same a.key b.key parts.1)

pub same_row_itself : (a : RowName) → same_row a a ≡ true
same_row_itself a = and_from (bytes_eq a.table a.table) (value_eq a.key a.key) (same_name a.table) (same_value a.key)
