-- After a change, the rows are still rows of the tables; how many rows each table then has.
use Rattle.std.proofs.Common.{◌+◌, ◌<◌, ◌≡◌, ◌≤◌, ℕ, ◌∙◌, ◌∷◌, Bool, true, false, List, None, Option, Some, [], ap, arith, bytes_eq, cond, filter, inl, inr, length, map, refl, subst, sym}
use Rattle.std.specs.Prelude.{IsSome, is_none, not, option_to_list}
use Rattle.std.specs.List.{AllByRecursion}
use Rattle.std.specs.Ordering.{is_lt}
use Rattle.std.specs.declared.cmp.Ordering.TheVariants.{Equal}
use Rattle.std.proofs.lemmas.Bool.{cases_Bool, cond-false, cond-true, cond_both, false_from_ne_true, false≢true}
use Rattle.escrow_num.proofs.Ascending.{ascending_filter, ascending_map}
use Rattle.escrow_num.proofs.Items.{Has, all_filter, all_has, find_has, find_none, has_all}
use Rattle.escrow_num.proofs.Orders.{before_trans, by_row, name_same, not_before, row_same, row_tied, row_total, same_name, same_row_itself}
use Rattle.escrow_num.proofs.Put.{has_put, length-filter_put, length_kept, put, put_ascending}
use Rattle.escrow_num.specs.Ascending.{IsAscending}
use Rattle.escrow_num.specs.Order.{row_cmp, same_row}
use Rattle.escrow_num.specs.declared.row.Row.{Row}
use Rattle.escrow_num.specs.declared.value.RowName.{RowName}
use Rattle.escrow_num.specs.declared.value.Value.{Value}
use Rattle.sqlite_trees.specs.declared.store.Store.{Ghosts}
use Rattle.sqlite.specs.Held.{Held, state}
use Rattle.escrow_cells.specs.Calls.{Transacts}
use Rattle.escrow_schema.specs.Rows.{row_named, replaced, with_plain, with_row, with_values, without_row, row_before, rows_of}
use Rattle.escrow_rows.specs.Changes.{Inserts, TurnsRows}
use Rattle.escrow_rows.specs.Image.{AreRows, IsImage, IsOfTables}
use Rattle.escrow_schema.specs.declared.stored.StoredTable.{StoredTable}
use Rattle.escrow_schema.specs.declared.table.TheConstants.TableDef.{MAX_ROWS}
use Rattle.escrow_rows.proofs.OneRow.{rows_named}
use Rattle.escrow_rows.proofs.Runs.{writes_as}
use Rattle.escrow_tables.specs.Calls.{with_new}

-- INSERT: the row is inserted in order
with_row_put : (row : Row) (rows : List Row) → with_row row rows ≡ put row_before row rows
with_row_put row [] = refl
with_row_put row (other ∷ rest) = ap (λ zs. cond (row_before row other) (row ∷ other ∷ rest) (other ∷ zs)) (with_row_put row rest)

-- if no row has its name, it is inserted
pub none_from : (o : Option Row) → is_none o ≡ true → o ≡ None
none_from None none = refl
none_from (Some row) none = absurd (false≢true none)

pub put_as_new : (row : Row) (rows : List Row) → row_named rows row.name ≡ None → with_new row rows ≡ with_row row rows
put_as_new row rows none = rw none refl

-- the store's call that inserts it makes the rows those with a new one
pub puts_new : {S : Type 0} (g : Ghosts S) (old new : Held S) (is_done : Bool) (s : StoredTable) (row : Row) → Transacts (state g old) (state g new) is_done (Inserts s row)
    → Transacts (state g old) (state g new) is_done (TurnsRows s (λ rows. is_none (row_named rows row.name)) (with_new row))
puts_new g old new is_done s row it =
    writes_as g old old new is_done (Inserts s row) (TurnsRows s (λ rows. is_none (row_named rows row.name)) (with_new row)) refl
    (λ before after inserts tables rows are of stands image.
    let made = inserts tables rows are of stands image in
    (made.0, subst (λ (rs : List Row). IsImage tables rs after) (sym (put_as_new row rows (none_from (row_named rows row.name) made.0))) made.1)) it

-- 1 if a test passes, 0 otherwise
abbrev one_if : Bool → ℕ
one_if b = cond b 1 0

-- its table has one more row
count_with : (row : Row) (rows : List Row) (table : List ℕ) → length (rows_of (with_row row rows) table) ≡ length (rows_of rows table) + one_if (bytes_eq row.name.table table)
count_with row rows table =
    ap (λ (rs : List Row). length (rows_of rs table)) (with_row_put row rows) ∙ length-filter_put row_before (λ (r : Row). bytes_eq r.name.table table) row rows

pub one_more : (row : Row) (rows : List Row) → length (rows_of (with_row row rows) row.name.table) ≡ length (rows_of rows row.name.table) + 1
one_more row rows =
    count_with row rows row.name.table ∙ ap (λ (n : ℕ). length (rows_of rows row.name.table) + n) (cond-true (bytes_eq row.name.table row.name.table) 1 0 (same_name row.name.table))

-- different names fail the test for equality
differ_eq : (a b : List ℕ) → ¬ (b ≡ a) → bytes_eq a b ≡ false
differ_eq a b differ = false_from_ne_true (bytes_eq a b) (λ t. differ (sym (name_same a b t)))

-- the other tables keep their number of rows
pub others_with : (row : Row) (rows : List Row) (table : List ℕ) → ¬ (table ≡ row.name.table) → length (rows_of (with_row row rows) table) ≡ length (rows_of rows table)
others_with row rows table differ =
    let none : one_if (bytes_eq row.name.table table) ≡ 0 = cond-false (bytes_eq row.name.table table) 1 0 (differ_eq row.name.table table differ) in
    omega (arith, count_with row rows table)

-- a new row is inserted in its order
in_order : (row : Row) (rows : List Row) → row_named rows row.name ≡ None → IsAscending row_before rows → IsAscending row_before (with_row row rows)
in_order row rows new ascending =
    let differs : (y : Row) → Has rows y → ¬ (by_row row y ≡ Equal) = λ y h e.
    let other : same_row y.name row.name ≡ false = find_none (λ r. same_row r.name row.name) rows new y h in
    let same : same_row y.name row.name ≡ true = subst (λ (n : RowName). same_row y.name n ≡ true) (sym (row_tied row y e)) (same_row_itself y.name) in
    false≢true (sym other ∙ same) in
    subst (IsAscending row_before) (sym (with_row_put row rows))
    (put_ascending row_before (before_trans by_row row_total) row rows (λ y h f. not_before by_row row_total row y f (differs y h)) ascending)

few_with : (row : Row) (rows : List Row) (table : List ℕ) → length (rows_of rows table) ≤ MAX_ROWS → length (rows_of rows row.name.table) < MAX_ROWS → length (rows_of (with_row row rows) table) ≤ MAX_ROWS
few_with row rows table few room =
    elim (cases_Bool (bytes_eq row.name.table table)) [
      | inl t ↦
          let one : one_if (bytes_eq row.name.table table) ≡ 1 = cond-true (bytes_eq row.name.table table) 1 0 t in
          let here : length (rows_of rows table) < MAX_ROWS = subst (λ (n : List ℕ). length (rows_of rows n) < MAX_ROWS) (name_same row.name.table table t) room in
          omega (arith, count_with row rows table)
      | inr f ↦
          let none : one_if (bytes_eq row.name.table table) ≡ 0 = cond-false (bytes_eq row.name.table table) 1 0 f in
          omega (arith, count_with row rows table)
    ]

pub are_rows_with : (tables : List StoredTable) (row : Row) (rows : List Row) → AreRows tables rows → IsOfTables tables row → row_named rows row.name ≡ None
    → length (rows_of rows row.name.table) < MAX_ROWS → AreRows tables (with_row row rows)
are_rows_with tables row rows are of new room = record {
  of_tables = has_all (IsOfTables tables) (with_row row rows)
      (λ r h. elim (has_put row_before row rows r (subst (λ (rs : List Row). Has rs r) (with_row_put row rows) h)) [
        | inl e ↦ subst (IsOfTables tables) e of
        | inr k ↦ all_has (IsOfTables tables) rows are.of_tables r k
      ]);
  row_order = in_order row rows new are.row_order;
  few_rows = λ table. few_with row rows table (are.few_rows table) room;
}

-- rows that a test keeps are rows of the tables
fewer : {A : Type 0} (p q : A → Bool) (xs : List A) → length (filter p (filter q xs)) ≤ length (filter p xs)
fewer p q [] = omega arith
fewer p q (x ∷ xs) =
    let rest = fewer p q xs in
    let part = length_kept (p x) x (filter p (filter q xs)) in
    let whole = length_kept (p x) x (filter p xs) in
    cond_both (q x) (x ∷ filter q xs) (filter q xs) (λ zs. length (filter p zs) ≤ length (filter p (x ∷ xs))) (λ _. omega arith) (λ _. omega arith)

pub are_rows_kept : (tables : List StoredTable) (keep : Row → Bool) (rows : List Row) → AreRows tables rows → AreRows tables (filter keep rows)
are_rows_kept tables keep rows are = record {
  of_tables = all_filter (IsOfTables tables) keep rows are.of_tables;
  row_order = ascending_filter row_before keep rows are.row_order;
  few_rows = λ table. let fewer_of = fewer (λ (r : Row). bytes_eq r.name.table table) keep rows in let few = are.few_rows table in omega arith;
}

-- DELETE: a table's rows are the remaining ones and, if the removed row was of this table, that row
both_kept : {A : Type 0} (p q : A → Bool) (xs : List A) → length (filter p xs) ≡ length (filter p (filter q xs)) + length (filter p (filter (λ x. not (q x)) xs))
both_kept p q [] = omega arith
both_kept p q (x ∷ xs) =
    let rest = both_kept p q xs in
    let whole = length_kept (p x) x (filter p xs) in
    let taken = length_kept (p x) x (filter p (filter q xs)) in
    let left = length_kept (p x) x (filter p (filter (λ y. not (q y)) xs)) in
    elim (q x) as (λ b. length (filter p (x ∷ xs)) ≡ length (filter p (cond b (x ∷ filter q xs) (filter q xs))) + length (filter p (cond (not b) (x ∷ filter (λ y. not (q y)) xs) (filter (λ y. not (q y)) xs)))) [
      | true ↦ omega arith
      | false ↦ omega arith
    ]

some_row : (rows : List Row) (name : RowName) → IsSome (row_named rows name) → (row : Row) × (row_named rows name ≡ Some row) × (row.name ≡ name)
some_row rows name = go (row_named rows name) refl
  where
    go : (o : Option Row) → row_named rows name ≡ o → IsSome o → (row : Row) × (row_named rows name ≡ Some row) × (row.name ≡ name)
    go None e h = absurd (false≢true h)
    go (Some row) e h = (row, e, row_same row.name name (find_has (λ r. same_row r.name name) rows row e).1)

count_without : (rows : List Row) (name : RowName) (table : List ℕ) → IsAscending row_before rows → IsSome (row_named rows name)
    → length (rows_of rows table) ≡ one_if (bytes_eq name.table table) + length (rows_of (without_row name rows) table)
count_without rows name table order has =
    let found = some_row rows name has in
    let row = found.0 in
    let only : filter (λ (r : Row). same_row r.name name) rows ≡ row ∷ [] = rows_named rows name order ∙ ap option_to_list found.1 in
    let here : length (rows_of (row ∷ []) table) ≡ 0 + one_if (bytes_eq row.name.table table) = length_kept (bytes_eq row.name.table table) row [] in
    let one : length (rows_of (row ∷ []) table) ≡ one_if (bytes_eq row.name.table table) = omega arith in
    let taken : length (rows_of (filter (λ (r : Row). same_row r.name name) rows) table) ≡ one_if (bytes_eq name.table table) =
    ap (λ (rs : List Row). length (rows_of rs table)) only ∙ one ∙ ap (λ (n : RowName). one_if (bytes_eq n.table table)) found.2 in
    both_kept (λ (r : Row). bytes_eq r.name.table table) (λ (r : Row). same_row r.name name) rows ∙ ap (λ n. n + length (rows_of (without_row name rows) table)) taken

pub one_less : (rows : List Row) (name : RowName) → IsAscending row_before rows → IsSome (row_named rows name)
    → length (rows_of rows name.table) ≡ length (rows_of (without_row name rows) name.table) + 1
one_less rows name order has =
    let one : one_if (bytes_eq name.table name.table) ≡ 1 = cond-true (bytes_eq name.table name.table) 1 0 (same_name name.table) in
    omega (arith, count_without rows name name.table order has)

pub others_without : (rows : List Row) (name : RowName) (table : List ℕ) → IsAscending row_before rows → IsSome (row_named rows name) → ¬ (table ≡ name.table)
    → length (rows_of (without_row name rows) table) ≡ length (rows_of rows table)
others_without rows name table order has differ =
    let none : one_if (bytes_eq name.table table) ≡ 0 = cond-false (bytes_eq name.table table) 1 0 (differ_eq name.table table differ) in
    omega (arith, count_without rows name table order has)

-- UPDATE of plain columns: names are unchanged
name_stays : (name : RowName) (values : List (Option Value)) (row : Row) → (with_values name values row).name ≡ row.name
name_stays name values row = cond_both (same_row row.name name) (record row { plain = replaced values row.plain }) row (λ (r : Row). r.name ≡ row.name) (λ _. refl) (λ _. refl)

-- a change that a test does not see changes no count
count_map : {A : Type 0} (p : A → Bool) (f : A → A) → ((x : A) → p (f x) ≡ p x) → (xs : List A) → length (filter p (map f xs)) ≡ length (filter p xs)
count_map p f same [] = refl
count_map p f same (x ∷ xs) =
    let rest = count_map p f same xs in
    let before = length_kept (p x) (f x) (filter p (map f xs)) in
    let after = length_kept (p x) x (filter p xs) in
    ap (λ b. length (cond b (f x ∷ filter p (map f xs)) (filter p (map f xs)))) (same x) ∙ omega arith

-- rows whose values change and whose names do not
module _ (f : Row → Row) (named : (row : Row) → (f row).name ≡ row.name) where
  pub count_changed : (rows : List Row) (table : List ℕ) → length (rows_of (map f rows) table) ≡ length (rows_of rows table)
  count_changed rows table = count_map (λ (r : Row). bytes_eq r.name.table table) f (λ r. ap (λ (n : RowName). bytes_eq n.table table) (named r)) rows

  same_order : (x y : Row) → row_before (f x) (f y) ≡ row_before x y
  same_order x y = ap (λ (n : RowName). is_lt (row_cmp n (f y).name)) (named x) ∙ ap (λ (n : RowName). is_lt (row_cmp x.name n)) (named y)

  pub are_rows_changed : (tables : List StoredTable) (rows : List Row) → AreRows tables rows → AllByRecursion (IsOfTables tables) (map f rows) → AreRows tables (map f rows)
  are_rows_changed tables rows are of = record {
    of_tables = of;
    row_order = ascending_map row_before f same_order rows are.row_order;
    few_rows = λ table. subst (λ n. n ≤ MAX_ROWS) (sym (count_changed rows table)) (are.few_rows table);
  }

pub count_plain : (name : RowName) (values : List (Option Value)) (rows : List Row) (table : List ℕ) → length (rows_of (with_plain name values rows) table) ≡ length (rows_of rows table)
count_plain name values = count_changed (with_values name values) (name_stays name values)

pub are_rows_plain : (tables : List StoredTable) (name : RowName) (values : List (Option Value)) (rows : List Row) → AreRows tables rows
    → AllByRecursion (IsOfTables tables) (with_plain name values rows) → AreRows tables (with_plain name values rows)
are_rows_plain tables name values rows = are_rows_changed (with_values name values) (name_stays name values) tables rows
