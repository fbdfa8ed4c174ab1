-- The cells of a store, split by table.
use Rattle.std.proofs.Common.{◌≡◌, ℕ, ℤ, pos, ◌+◌, Bool, true, false, not, List, [], ◌∷◌, map, filter, flat_map, refl, sym, ap, ◌∙◌, subst, inl, inr, IsTrue, IsPermutation}
use Rattle.std.specs.List.{AllByRecursion}
use Rattle.std.specs.Ordering.{int_eq}
use Rattle.std.proofs.lemmas.Bool.{both_ways, cases_Bool, not-true}
use Rattle.std.proofs.lemmas.Bool.Decides.{Decides-int_eq}
use Rattle.std.proofs.lemmas.List.Sorted.{IsPermutation-refl, IsPermutation-sym, IsPermutation-trans, IsPermutation-append_right, IsPermutation-filter_both, IsPermutation-map}
use Rattle.sqlite_value.specs.declared.value.Value.TheVariants as sql
use Rattle.sqlite_value.specs.Order.{Row as SqlRow, column}
use Rattle.sqlite_trees.proofs.ListLemmas.{all-map, all_weaker, all_of, flat_map_same_on, map-flat_map, map-map}
use Rattle.sqlite.specs.Effect.{Database}
use Rattle.escrow_num.specs.declared.row.Row.{Row}
use Rattle.escrow_num.specs.declared.value.Value.{Value}
use Rattle.escrow_num.specs.Ascending.{IsAscending}
use Rattle.escrow_num.proofs.Items.{Has, all_has, has_all, has_filter}
use Rattle.escrow_schema.specs.Fit.{values_of}
use Rattle.escrow_cells.specs.Step.{same, is_in}
use Rattle.escrow_cells.specs.Store.{cells}
use Rattle.escrow_schema.specs.declared.stored.StoredTable.{StoredTable}
use Rattle.escrow_rows.specs.Placed.{keyed, keyed_cells}
use Rattle.escrow_rows.specs.Image.{stored, cells_from, cells_in}
use Rattle.escrow_rows.proofs.ImageTables.{pieces_same}
use Rattle.escrow_rows.proofs.KeyedCells.{with_key}
use Rattle.escrow_rows.proofs.Same.{same_numbers}
use Rattle.escrow_recover.specs.Inside.{IsNumberOf, AreOfTables, AreRowsIn, is_number_of}

-- a cell belongs to one of the tables
abbrev pub IsOfOne : List StoredTable → SqlRow → Type 0
IsOfOne tables c = (s : StoredTable) × Has tables s × (column c 0 ≡ sql.Int s.id)

-- the result of the test by table for a cell with a table's number
pub in_number : (id n : ℤ) (c : SqlRow) → column c 0 ≡ sql.Int n → is_in (sql.Int id) c ≡ int_eq n id
in_number id n c h = ap (λ v. same v (sql.Int id)) h ∙ same_numbers n id

number_same : (id n : ℤ) (c : SqlRow) → column c 0 ≡ sql.Int n → is_in (sql.Int id) c ≡ true → n ≡ id
number_same id n c h k = (Decides-int_eq n id).0 (sym (in_number id n c h) ∙ k)

-- filtering by two tests equals filtering by the first, if each item that passes the first passes the second
filter_kept : {A : Type 0} (p q : A → Bool) (xs : List A) → AllByRecursion (λ x. p x ≡ true → q x ≡ true) xs → filter p (filter q xs) ≡ filter p xs
filter_kept p q [] h = refl
filter_kept p q (x ∷ xs) h =
    let more = filter_kept p q xs h.1 in
    elim (cases_Bool (p x)) [
      | inl t ↦ rw (h.0 t, t, more) refl
      | inr f ↦ elim (cases_Bool (q x)) [ inl kept ↦ rw (kept, f) more | inr out ↦ rw (out, f) more ]
    ]

-- a cell of one table does not belong to another
not_both : (t s : StoredTable) (c : SqlRow) (n : ℤ) → column c 0 ≡ sql.Int n → not (int_eq t.id s.id) ≡ true → is_in (sql.Int s.id) c ≡ true → not (is_in (sql.Int t.id) c) ≡ true
not_both t s c n is apart h =
    elim (cases_Bool (is_in (sql.Int t.id) c)) [
      | inl k ↦ absurd (both_ways (int_eq t.id s.id) (not-true (int_eq t.id s.id) apart) ((Decides-int_eq t.id s.id).1 (sym (number_same t.id n c is k) ∙ number_same s.id n c is h)))
      | inr f ↦ ap not f
    ]

-- a cell that is not of the first table belongs to one of the others
of_others : (t : StoredTable) (ts : List StoredTable) (cs : List SqlRow) → AllByRecursion (IsOfOne (t ∷ ts)) cs → AllByRecursion (IsOfOne ts) (filter (λ c. not (is_in (sql.Int t.id) c)) cs)
of_others t ts cs of =
    has_all (IsOfOne ts) (filter (λ c. not (is_in (sql.Int t.id) c)) cs) (λ c k.
    let found = has_filter (λ c. not (is_in (sql.Int t.id) c)) cs c k in
    let one = all_has (IsOfOne (t ∷ ts)) cs of c found.0 in
    other c one.0 one.1 one.2 (not-true (is_in (sql.Int t.id) c) found.1))
  where
    other : (c : SqlRow) (s : StoredTable) → Has (t ∷ ts) s → column c 0 ≡ sql.Int s.id → is_in (sql.Int t.id) c ≡ false → IsOfOne ts c
    other c s (inl e) is out = absurd (both_ways _ out (in_number t.id s.id c is ∙ (Decides-int_eq s.id t.id).1 (ap (λ (x : StoredTable). x.id) (sym e))))
    other c s (inr has) is out = (s, has, is)

-- cells of the tables are those of the first table, then those of the second, and so on
pub cells_split : (tables : List StoredTable) (cs : List SqlRow) → IsAscending (λ a b. not (int_eq a.id b.id)) tables → AllByRecursion (IsOfOne tables) cs
    → IsPermutation (flat_map (λ (s : StoredTable). filter (is_in (sql.Int s.id)) cs) tables) cs
cells_split [] [] apart of = IsPermutation-refl []
cells_split [] (c ∷ cs) apart of = absurd of.0.1
cells_split (t ∷ ts) cs apart of =
    let mine : SqlRow → Bool = is_in (sql.Int t.id) in
    let others : SqlRow → Bool = λ c. not (is_in (sql.Int t.id) c) in
    let left = filter others cs in
    let parts = IsPermutation-filter_both mine others (λ c. refl) cs in
    let more = cells_split ts left apart.1 (of_others t ts cs of) in
    let kept : flat_map (λ (s : StoredTable). filter (is_in (sql.Int s.id)) left) ts ≡ flat_map (λ (s : StoredTable). filter (is_in (sql.Int s.id)) cs) ts =
    pieces_same _ _ ts (has_all _ ts (λ s k.
    filter_kept (is_in (sql.Int s.id)) others cs
    (all_weaker (IsOfOne (t ∷ ts)) _ (λ c one. not_both t s c one.0.id one.2 (all_has (λ (x : StoredTable). IsTrue (not (int_eq t.id x.id))) ts apart.0 s k)) cs of))) in
    IsPermutation-trans _ _ _ (IsPermutation-append_right (filter mine cs) _ _ (subst (λ xs. IsPermutation xs left) kept more)) (IsPermutation-sym _ _ parts)

-- the table with a number
pub numbered : (tables : List StoredTable) (id : ℤ) → is_number_of tables id ≡ true → (s : StoredTable) × Has tables s × (s.id ≡ id)
numbered [] id h = absurd (cc)
numbered (t ∷ ts) id h =
    elim (cases_Bool (int_eq t.id id)) [
      | inl here ↦ (t, inl refl, (Decides-int_eq t.id id).0 here)
      | inr not_here ↦
          let later : is_number_of ts id ≡ true = rw not_here at h in
          let found = numbered ts id later in
          (found.0, inr found.1, found.2)
    ]

-- each table has its number
pub has_number : (tables : List StoredTable) (s : StoredTable) → Has tables s → is_number_of tables s.id ≡ true
has_number [] s has = absurd has
has_number (t ∷ ts) s (inl e) = rw ((Decides-int_eq t.id s.id).1 (ap (λ (x : StoredTable). x.id) e)) refl
has_number (t ∷ ts) s (inr has) = elim (cases_Bool (int_eq t.id s.id)) [ inl here ↦ rw here refl | inr not_here ↦ rw not_here (has_number ts s has) ]

-- each cell of a store belongs to one of its tables
pub of_one : (tables : List StoredTable) (db : Database) → AreOfTables tables db → AllByRecursion (IsOfOne tables) (cells db)
of_one tables db of =
    all_weaker (λ c. IsNumberOf tables (column c 0)) (IsOfOne tables)
    (λ c h. let found = numbered tables h.0 h.2 in (found.0, found.1, h.1 ∙ ap sql.Int (sym found.2))) (cells db) of

-- a cell has four values
abbrev Whole : SqlRow → Type 0
Whole c = c ≡ column c 0 ∷ column c 1 ∷ column c 2 ∷ column c 3 ∷ []

cells_whole : (db : Database) → AllByRecursion Whole (cells db)
cells_whole db = all-map Whole _ (db.trees _) (all_of _ (λ r. refl) (db.trees _))

-- a table's number, put before a cell given by key, place and value
abbrev under : ℤ → SqlRow → SqlRow
under id c = sql.Int id ∷ c

keyed_under : (id : ℤ) (key : Value) (place : ℕ) (vs : List Value) → map (under id) (keyed key place vs) ≡ cells_from id key (pos place) vs
keyed_under id key place [] = refl
keyed_under id key place (v ∷ vs) = ap (λ cs. (sql.Int id ∷ stored key ∷ sql.Int (pos place) ∷ stored v ∷ []) ∷ cs) (keyed_under id key (place + 1) vs)

map_itself : {A : Type 0} (f : A → A) (xs : List A) → AllByRecursion (λ x. f x ≡ x) xs → map f xs ≡ xs
map_itself f [] h = refl
map_itself f (x ∷ xs) h = rw (h.0, map_itself f xs h.1) refl

-- the cells of a table's rows are the store's cells of that table
pub cells_of_part : (tables : List StoredTable) (s : StoredTable) (rows : List Row) (db : Database) → AreOfTables tables db → AreRowsIn s rows db
    → IsPermutation (flat_map (cells_in s) rows) (filter (is_in (sql.Int s.id)) (cells db))
cells_of_part tables s rows db of in_store =
    let mine = filter (is_in (sql.Int s.id)) (cells db) in
    let whole : AllByRecursion (λ c. under s.id (with_key c) ≡ c) mine =
    has_all _ mine (λ c k.
    let found = has_filter (is_in (sql.Int s.id)) (cells db) c k in
    let one = all_has (IsOfOne tables) (cells db) (of_one tables db of) c found.0 in
    let number : column c 0 ≡ sql.Int s.id = one.2 ∙ ap sql.Int (number_same s.id one.0.id c one.2 found.1) in
    ap (λ v. v ∷ with_key c) (sym number) ∙ sym (all_has Whole (cells db) (cells_whole db) c found.0)) in
    let left : map (under s.id) (flat_map (keyed_cells s.table) rows) ≡ flat_map (cells_in s) rows =
    map-flat_map (under s.id) (keyed_cells s.table) rows ∙ flat_map_same_on _ (cells_in s) (λ row. keyed_under s.id row.name.key 1 (values_of s.table row)) rows in
    let right : map (under s.id) (map with_key mine) ≡ mine = map-map (under s.id) with_key mine ∙ map_itself _ mine whole in
    subst (λ xs. IsPermutation xs mine) left (subst (IsPermutation (map (under s.id) (flat_map (keyed_cells s.table) rows))) right (IsPermutation-map (under s.id) _ _ in_store.cells_are))
