-- The cells of rows: the table and the key that each cell names.
use Rattle.std.proofs.Common.{◌≡◌, ℕ, ℤ, pos, Bool, true, not, List, [], ◌∷◌, ◌++◌, Option, Some, None, filter, flat_map, refl, sym, ap, ap₂, ◌∙◌, subst, inl, inr}
use Rattle.std.specs.Prelude.{◌+ℤ◌, ◌&&◌, bytes_eq, IsSomeAnd, option_map, unwrap_or}
use Rattle.std.specs.List.{AllByRecursion}
use Rattle.std.specs.Ordering.{int_eq}
use Rattle.std.proofs.lemmas.Bool.{both_ways, cases_Bool, not-true}
use Rattle.std.proofs.lemmas.Bool.Decides.{same_from_decides, Decides-int_eq}
use Rattle.std.proofs.lemmas.List.Elements.{filter-append}
use Rattle.std.proofs.lemmas.Option.{same_Some}
use Rattle.std.proofs.lemmas.Slice.Eq.{bytes_eq-Decides}
use Rattle.sqlite_value.specs.declared.value.Value.TheVariants as sql
use Rattle.sqlite_value.specs.Order.{Row as SqlRow, column}
use Rattle.sqlite_trees.proofs.ListLemmas.{all_weaker, filter_all, filter_none}
use Rattle.escrow_num.specs.declared.row.Row.{Row}
use Rattle.escrow_num.specs.declared.value.Value.{Value}
use Rattle.escrow_num.specs.Order.{same_row, value_eq}
use Rattle.escrow_num.proofs.Ascending.{ascending_one}
use Rattle.escrow_num.proofs.Items.{Has, find_has}
use Rattle.escrow_num.proofs.Orders.{name_same}
use Rattle.escrow_schema.specs.Fit.{IsRowOf, values_of}
use Rattle.escrow_cells.specs.Step.{same, is_in, is_of}
use Rattle.escrow_schema.specs.declared.stored.StoredTable.{StoredTable}
use Rattle.escrow_rows.specs.Image.{stored, cells_from, cells_in, cells_of, stored_named, AreTables, IsOfTables}
use Rattle.escrow_rows.specs.Changes.{Stands, name_in}
use Rattle.escrow_rows.proofs.Same.{same_numbers, same_stored}

-- a cell names a table and a key
abbrev pub IsCell : ℤ → Value → SqlRow → Type 0
IsCell id key cell = (column cell 0 ≡ sql.Int id) × (column cell 1 ≡ stored key)

-- each cell of a row's values names the row's table and key
pub cells_name : (id : ℤ) (key : Value) (place : ℤ) (values : List Value) → AllByRecursion (IsCell id key) (cells_from id key place values)
cells_name id key place [] = tt
cells_name id key place (v ∷ values) = ((refl, refl), cells_name id key (place +ℤ pos 1) values)

-- the results of the test by table and of the test by table and key
pub is_in_cell : (id other : ℤ) (key : Value) (cell : SqlRow) → IsCell other key cell → is_in (sql.Int id) cell ≡ int_eq other id
is_in_cell id other key cell h = ap (λ v. same v (sql.Int id)) h.0 ∙ same_numbers other id

pub is_of_cell : (id other : ℤ) (key mine : Value) (cell : SqlRow) → IsCell other mine cell → is_of (sql.Int id) (stored key) cell ≡ (int_eq other id && value_eq mine key)
is_of_cell id other key mine cell h =
    ap₂ ◌&&◌ (is_in_cell id other mine cell h) (ap (λ v. same v (stored key)) h.1 ∙ same_stored mine key)

pub never_apart : (b : Bool) → b ≡ true → not b ≡ true → ⊥
never_apart b t n = both_ways b (not-true b n) t

-- two tables with one number are equal, and so are two with one name
pub one_number : (tables : List StoredTable) → AreTables tables → (t s : StoredTable) → Has tables t → Has tables s → t.id ≡ s.id → t ≡ s
one_number tables h t s has_t has_s e =
    elim (ascending_one (λ a b. not (int_eq a.id b.id)) tables h.ids_apart t s has_t has_s) [
      | inl one ↦ one
      | inr (inl apart) ↦ absurd (never_apart (int_eq t.id s.id) ((Decides-int_eq t.id s.id).1 e) apart)
      | inr (inr apart) ↦ absurd (never_apart (int_eq s.id t.id) ((Decides-int_eq s.id t.id).1 (sym e)) apart)
    ]

pub one_name : (tables : List StoredTable) → AreTables tables → (t s : StoredTable) → Has tables t → Has tables s → t.table.name ≡ s.table.name → t ≡ s
one_name tables h t s has_t has_s e =
    let same_names : (a b : List ℕ) → a ≡ b → bytes_eq a b ≡ true = λ a b. (bytes_eq-Decides a b).1 in
    elim (ascending_one (λ a b. not (bytes_eq a.table.name b.table.name)) tables h.names_apart t s has_t has_s) [
      | inl one ↦ one
      | inr (inl apart) ↦ absurd (never_apart (bytes_eq t.table.name s.table.name) (same_names _ _ e) apart)
      | inr (inr apart) ↦ absurd (never_apart (bytes_eq s.table.name t.table.name) (same_names _ _ (sym e)) apart)
    ]

-- numbers distinguish tables as names do
pub numbers_tell : (tables : List StoredTable) → AreTables tables → (t s : StoredTable) → Has tables t → Has tables s
    → int_eq t.id s.id ≡ bytes_eq t.table.name s.table.name
numbers_tell tables h t s has_t has_s =
    same_from_decides {P = t ≡ s} (int_eq t.id s.id) (bytes_eq t.table.name s.table.name)
    (λ e. one_number tables h t s has_t has_s ((Decides-int_eq t.id s.id).0 e), λ e. (Decides-int_eq t.id s.id).1 (ap (λ (x : StoredTable). x.id) e))
    (λ e. one_name tables h t s has_t has_s (name_same _ _ e), λ e. (bytes_eq-Decides t.table.name s.table.name).1 (ap (λ (x : StoredTable). x.table.name) e))

-- a table that exists is one of the tables
pub stands_has : (tables : List StoredTable) (s : StoredTable) → Stands tables s → Has tables s
stands_has tables s h = (find_has (λ t. bytes_eq t.table.name s.table.name) tables s h).0

-- a row belongs to an existing table, and its cells are that table's
pub record IsRowIn (tables : List StoredTable) (row : Row) (t : StoredTable) : Type 0 where
  pub has : Has tables t
  pub table_name : t.table.name ≡ row.name.table
  pub found : stored_named tables row.name.table ≡ Some t
  pub fits : IsRowOf t.table row
  pub cells : cells_of tables row ≡ cells_in t row

-- the table of a row, if it has one
pub row_in : (tables : List StoredTable) (row : Row) → IsOfTables tables row → (t : StoredTable) × IsRowIn tables row t
row_in tables row = go (stored_named tables row.name.table) refl
  where
    go : (o : Option StoredTable) → stored_named tables row.name.table ≡ o → IsSomeAnd o (λ s. IsRowOf s.table row) → (t : StoredTable) × IsRowIn tables row t
    go None e h = absurd h
    go (Some t) e h =
        let found = find_has (λ s. bytes_eq s.table.name row.name.table) tables t e in (
          t,
          record {
            has = found.0;
            table_name = name_same _ _ found.1;
            found = e;
            fits = h;
            cells = ap (λ o. unwrap_or (option_map (λ s. cells_in s row) o) []) e;
          },
        )

-- a row that names an existing table belongs to that table, with its cells
pub row_of_stored : (tables : List StoredTable) (s : StoredTable) (row : Row) → Stands tables s → IsOfTables tables row → row.name.table ≡ s.table.name
    → IsRowOf s.table row × (cells_of tables row ≡ cells_in s row)
row_of_stored tables s row stands of named =
    let found = row_in tables row of in
    let same : found.0 ≡ s = same_Some found.0 s (sym found.1.found ∙ ap (stored_named tables) named ∙ stands) in (
      subst (λ (t : StoredTable). IsRowOf t.table row) same found.1.fits,
      found.1.cells ∙ ap (λ (t : StoredTable). cells_in t row) same,
    )

-- whether a row's cells belong to a table, or to the row of a key in it
pub is_in_row : (tables : List StoredTable) (s : StoredTable) (row : Row) → AreTables tables → Has tables s → IsOfTables tables row
    → AllByRecursion (λ cell. is_in (sql.Int s.id) cell ≡ bytes_eq row.name.table s.table.name) (cells_of tables row)
is_in_row tables s row h has of =
    let found = row_in tables row of in
    let t = found.0 in
    let numbers : int_eq t.id s.id ≡ bytes_eq row.name.table s.table.name =
    numbers_tell tables h t s found.1.has has ∙ ap (λ n. bytes_eq n s.table.name) found.1.table_name in
    subst (AllByRecursion (λ cell. is_in (sql.Int s.id) cell ≡ bytes_eq row.name.table s.table.name)) (sym found.1.cells)
    (all_weaker (IsCell t.id row.name.key) _ (λ cell k. is_in_cell s.id t.id row.name.key cell k ∙ numbers) (cells_in t row) (cells_name t.id row.name.key (pos 1) (values_of t.table row)))

pub is_of_row : (tables : List StoredTable) (s : StoredTable) (key : Value) (row : Row) → AreTables tables → Has tables s → IsOfTables tables row
    → AllByRecursion (λ cell. is_of (sql.Int s.id) (stored key) cell ≡ same_row row.name (name_in s key)) (cells_of tables row)
is_of_row tables s key row h has of =
    let found = row_in tables row of in
    let t = found.0 in
    let numbers : int_eq t.id s.id ≡ bytes_eq row.name.table s.table.name =
    numbers_tell tables h t s found.1.has has ∙ ap (λ n. bytes_eq n s.table.name) found.1.table_name in
    subst (AllByRecursion (λ cell. is_of (sql.Int s.id) (stored key) cell ≡ same_row row.name (name_in s key))) (sym found.1.cells)
    (all_weaker (IsCell t.id row.name.key) _ (λ cell k. is_of_cell s.id t.id key row.name.key cell k ∙ ap (λ b. b && value_eq row.name.key key) numbers)
    (cells_in t row) (cells_name t.id row.name.key (pos 1) (values_of t.table row)))

-- if the pieces of each item all pass a test or all fail it, the pieces that pass are those of the items that pass
pub filter_pieces : {A B : Type 0} (f : A → List B) (p : B → Bool) (q : A → Bool) (xs : List A)
    → AllByRecursion (λ x. AllByRecursion (λ y. p y ≡ q x) (f x)) xs → filter p (flat_map f xs) ≡ flat_map f (filter q xs)
filter_pieces f p q [] h = refl
filter_pieces f p q (x ∷ xs) h =
    let more = filter_pieces f p q xs h.1 in
    let here = filter-append p (f x) (flat_map f xs) in
    elim (cases_Bool (q x)) [
      | inl t ↦ rw t (here ∙ ap₂ ◌++◌ (filter_all p (f x) (subst (λ b. AllByRecursion (λ y. p y ≡ b) (f x)) t h.0)) more)
      | inr n ↦ rw n (here ∙ ap₂ ◌++◌ (filter_none p (f x) (subst (λ b. AllByRecursion (λ y. p y ≡ b) (f x)) n h.0)) more)
    ]
