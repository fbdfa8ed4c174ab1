-- The rows of all tables, one table after another.
use Rattle.std.proofs.Common.{◌≡◌, ℕ, Bool, true, false, not, List, [], ◌∷◌, ◌++◌, Option, Some, None, Ordering, Less, Equal, Greater, filter, bytes_eq, inl, inr, refl, sym, ap, ap₂, subst, ◌∙◌}
use Rattle.std.specs.Prelude.{◌⊎◌, IsSomeAnd, IsTrue}
use Rattle.std.specs.List.{AllByRecursion}
use Rattle.std.specs.Ordering.{is_lt, nat_cmp, ordering_then}
use Rattle.std.specs.Cmp.Lexicographic.{slice_cmp}
use Rattle.std.proofs.lemmas.Bool.{both_ways, cases_Bool, not-true}
use Rattle.std.proofs.lemmas.Cmp.{nat_list_cmp_total}
use Rattle.escrow_num.specs.Ascending.{IsAscending}
use Rattle.escrow_num.specs.Order.{value_cmp}
use Rattle.escrow_num.specs.declared.row.Row.{Row}
use Rattle.escrow_num.proofs.Ascending.{ascending_filter}
use Rattle.escrow_num.proofs.Items.{Has, all_has, has_all, has_filter, find_has}
use Rattle.escrow_num.proofs.Orders.{before_itself, before_trans, list_tied, name_same, same_name}
use Rattle.escrow_schema.specs.declared.table.TableDef.{TableDef}
use Rattle.escrow_schema.specs.Catalog.{table_before, table_named}
use Rattle.escrow_schema.specs.Fit.{IsRowOf}
use Rattle.escrow_schema.specs.Rows.{AreRowsOf, HasTable, row_before, rows_of, without_rows_of}
use Rattle.escrow_tables.specs.Whole.{rows_by_table}

-- ---- names in order

abbrev pub is_below : List ℕ → List ℕ → Bool
is_below a b = is_lt (slice_cmp nat_cmp a b)

pub below_differs : (a b : List ℕ) → is_below a b ≡ true → bytes_eq a b ≡ false
below_differs a b less = elim (cases_Bool (bytes_eq a b)) [
  | inl same ↦ absurd (both_ways (is_below a b)
      (subst (λ (n : List ℕ). is_below a n ≡ false) (name_same a b same) (before_itself (slice_cmp nat_cmp) nat_list_cmp_total a)) less)
  | inr f ↦ f
]

below_apart : (a b : List ℕ) → is_below a b ≡ true → bytes_eq b a ≡ false
below_apart a b less = elim (cases_Bool (bytes_eq b a)) [
  | inl same ↦ absurd (both_ways (is_below a b)
      (subst (λ (n : List ℕ). is_below a n ≡ false) (sym (name_same b a same)) (before_itself (slice_cmp nat_cmp) nat_list_cmp_total a)) less)
  | inr f ↦ f
]

first_part : (o rest : Ordering) → is_lt (ordering_then o rest) ≡ true → (o ≡ Equal) ⊎ (is_lt o ≡ true)
first_part Less rest e = inr refl
first_part Equal rest e = inl refl
first_part Greater rest e = absurd (cc)

-- a row that is before another belongs to the same table or an earlier one
abbrev IsUpTo : List ℕ → List ℕ → Type 0
IsUpTo a b = (a ≡ b) ⊎ (is_below a b ≡ true)

row_up_to : (a b : Row) → row_before a b ≡ true → IsUpTo a.name.table b.name.table
row_up_to a b before = elim (first_part (slice_cmp nat_cmp a.name.table b.name.table) (value_cmp a.name.key b.name.key) before) [
  | inl tied ↦ inl (list_tied a.name.table b.name.table tied)
  | inr less ↦ inr less
]

below_up_to : (a b c : List ℕ) → is_below a b ≡ true → IsUpTo b c → is_below a c ≡ true
below_up_to a b c less (inl same) = subst (λ (n : List ℕ). is_below a n ≡ true) same less
below_up_to a b c less (inr more) = before_trans (slice_cmp nat_cmp) nat_list_cmp_total a b c less more

-- ---- the rows of the first table and those of the others

none_of : (name : List ℕ) (rows : List Row) → AllByRecursion (λ r. bytes_eq r.name.table name ≡ false) rows → rows_of rows name ++ without_rows_of name rows ≡ rows
none_of name [] h = refl
none_of name (r ∷ rows) h =
    let kept : without_rows_of name rows ≡ rows = all_left name rows h.1 in
    let none : rows_of rows name ≡ [] = none_left name rows h.1 in
    rw (h.0, none, kept) refl
  where
    all_left : (name : List ℕ) (rows : List Row) → AllByRecursion (λ r. bytes_eq r.name.table name ≡ false) rows → without_rows_of name rows ≡ rows
    all_left name [] h = refl
    all_left name (r ∷ rows) h = rw h.0 (ap (λ (rs : List Row). r ∷ rs) (all_left name rows h.1))

    none_left : (name : List ℕ) (rows : List Row) → AllByRecursion (λ r. bytes_eq r.name.table name ≡ false) rows → rows_of rows name ≡ []
    none_left name [] h = refl
    none_left name (r ∷ rows) h = rw h.0 (none_left name rows h.1)

-- if no table is earlier than a given one, its rows come first and the others follow
split_first : (name : List ℕ) (rows : List Row) → IsAscending row_before rows → AllByRecursion (λ r. IsUpTo name r.name.table) rows
    → rows_of rows name ++ without_rows_of name rows ≡ rows
split_first name [] order up = refl
split_first name (r ∷ rows) order up = elim (cases_Bool (bytes_eq r.name.table name)) [
  | inl mine ↦ rw mine (ap (λ (rs : List Row). r ∷ rs) (split_first name rows order.1 up.1))
  | inr other ↦
      let less : is_below name r.name.table ≡ true = above name r.name.table up.0 other in
      none_of name (r ∷ rows) (
        other,
        has_all (λ s. bytes_eq s.name.table name ≡ false) rows (λ s k.
            below_apart name s.name.table (below_up_to name r.name.table s.name.table less (row_up_to r s (all_has (λ s. IsTrue (row_before r s)) rows order.0 s k)))),
      )
]
  where
    above : (a b : List ℕ) → IsUpTo a b → bytes_eq b a ≡ false → is_below a b ≡ true
    above a b (inl same) other = absurd (both_ways (bytes_eq b a) other (subst (λ (n : List ℕ). bytes_eq n a ≡ true) same (same_name a)))
    above a b (inr less) other = less

-- ---- all tables

-- a row belongs to one of the tables
abbrev IsOfOne : List TableDef → Row → Type 0
IsOfOne tables r = (t : TableDef) × Has tables t × (t.name ≡ r.name.table)

filter_kept : (p q : Row → Bool) (rows : List Row) → ((r : Row) → p r ≡ true → q r ≡ true) → filter p (filter q rows) ≡ filter p rows
filter_kept p q [] h = refl
filter_kept p q (r ∷ rows) h =
    let more = filter_kept p q rows h in
    elim (cases_Bool (p r)) [
      | inl t ↦ let kept = h r t in rw (kept, t, more) refl
      | inr f ↦ elim (cases_Bool (q r)) [ inl kept ↦ rw (kept, f) more | inr out ↦ rw (out, f) more ]
    ]

-- the rows of a later table are among the others
others_have : (t u : TableDef) (rows : List Row) → is_below t.name u.name ≡ true → rows_of (without_rows_of t.name rows) u.name ≡ rows_of rows u.name
others_have t u rows less =
    filter_kept (λ (r : Row). bytes_eq r.name.table u.name) (λ (r : Row). not (bytes_eq r.name.table t.name)) rows
    (λ r mine. let apart : bytes_eq r.name.table t.name ≡ false = below_apart t.name r.name.table (subst (λ (n : List ℕ). is_below t.name n ≡ true) (sym (name_same r.name.table u.name mine)) less) in ap not apart)

others_by_table : (t : TableDef) (tables : List TableDef) (rows : List Row) → AllByRecursion (λ u. IsTrue (table_before t u)) tables
    → rows_by_table (without_rows_of t.name rows) tables ≡ rows_by_table rows tables
others_by_table t [] rows before = refl
others_by_table t (u ∷ tables) rows before = ap₂ (λ (xs ys : List Row). xs ++ ys) (others_have t u rows before.0) (others_by_table t tables rows before.1)

up_to_first : (t : TableDef) (tables : List TableDef) (r : Row) → AllByRecursion (λ u. IsTrue (table_before t u)) tables → IsOfOne (t ∷ tables) r → IsUpTo t.name r.name.table
up_to_first t tables r before (u, inl same, named) = inl (ap (λ (x : TableDef). x.name) same ∙ named)
up_to_first t tables r before (u, inr has, named) =
    inr (subst (λ (n : List ℕ). is_below t.name n ≡ true) named (all_has (λ u. IsTrue (table_before t u)) tables before u has))

of_others : (t : TableDef) (tables : List TableDef) (r : Row) → IsOfOne (t ∷ tables) r → not (bytes_eq r.name.table t.name) ≡ true → IsOfOne tables r
of_others t tables r (u, inl same, named) out =
    absurd (both_ways (bytes_eq r.name.table t.name) (not-true (bytes_eq r.name.table t.name) out)
    (subst (λ (n : List ℕ). bytes_eq n t.name ≡ true) (ap (λ (x : TableDef). x.name) same ∙ named) (same_name t.name)))
of_others t tables r (u, inr has, named) out = (u, has, named)

by_table_all : (tables : List TableDef) (rows : List Row) → IsAscending table_before tables → IsAscending row_before rows → AllByRecursion (IsOfOne tables) rows
    → rows_by_table rows tables ≡ rows
by_table_all [] [] order row_order of = refl
by_table_all [] (r ∷ rows) order row_order of = absurd of.0.1
by_table_all (t ∷ tables) rows order row_order of =
    let other : Row → Bool = λ r. not (bytes_eq r.name.table t.name) in
    let left = without_rows_of t.name rows in
    let left_of = has_all (IsOfOne tables) left (λ r k.
    let found = has_filter other rows r k in of_others t tables r (all_has (IsOfOne (t ∷ tables)) rows of r found.0) found.1) in
    let more = by_table_all tables left order.1 (ascending_filter row_before other rows row_order) left_of in
    let up = has_all (λ r. IsUpTo t.name r.name.table) rows (λ r k. up_to_first t tables r order.0 (all_has (IsOfOne (t ∷ tables)) rows of r k)) in
    ap (λ (rs : List Row). rows_of rows t.name ++ rs) (sym (others_by_table t tables rows order.0) ∙ more) ∙ split_first t.name rows row_order up

of_one : (tables : List TableDef) (r : Row) → HasTable tables r → IsOfOne tables r
of_one tables r = at (table_named tables r.name.table) refl
  where
    at : (o : Option TableDef) → table_named tables r.name.table ≡ o → IsSomeAnd o (λ t. IsRowOf t r) → IsOfOne tables r
    at None e h = absurd h
    at (Some t) e h = let found = find_has (λ (t : TableDef). bytes_eq t.name r.name.table) tables t e in (t, found.0, name_same t.name r.name.table found.1)

-- in a catalog, the rows of the tables, one table after another, are all rows
pub all_by_table : (catalog : List TableDef) (rows : List Row) → IsAscending table_before catalog → AreRowsOf catalog rows → rows_by_table rows catalog ≡ rows
all_by_table catalog rows order are =
    by_table_all catalog rows order are.row_order (has_all (IsOfOne catalog) rows (λ r k. of_one catalog r (all_has (HasTable catalog) rows are.tables r k)))
