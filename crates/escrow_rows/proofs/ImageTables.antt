-- CREATE TABLE adds a table to the image; DROP TABLE removes a table and its rows.
use Rattle.std.proofs.Common.{◌≡◌, ℕ, ℤ, Bool, true, false, not, List, [], ◌∷◌, Some, map, filter, find, flat_map, refl, sym, ap, ◌∙◌, inl, inr, IsPermutation}
use Rattle.std.specs.Borrow.{Bor}
use Rattle.std.specs.Prelude.{bytes_eq, option_map, unwrap_or}
use Rattle.std.specs.List.{AllByRecursion}
use Rattle.std.proofs.lemmas.Bool.{cases_Bool, not-true}
use Rattle.std.proofs.lemmas.List.Sorted.{IsPermutation-cons, IsPermutation-map, IsPermutation-sym, IsPermutation-trans}
use Rattle.sqlite_value.specs.declared.value.Value.TheVariants as sql
use Rattle.sqlite_value.specs.Order.{column}
use Rattle.sqlite_trees.proofs.ListLemmas.{all_weaker, all-permutation, filter-map, filter_same, IsPermutation-filter}
use Rattle.sqlite.specs.Effect.{Database}
use Rattle.escrow_num.specs.declared.row.Row.{Row}
use Rattle.escrow_num.proofs.Items.{Has, all_has, find_has, has_all, has_filter, has_find}
use Rattle.escrow_num.proofs.Orders.{name_same}
use Rattle.escrow_schema.specs.Print.{canonical}
use Rattle.escrow_cells.specs.declared.step.Step.TheVariants as step
use Rattle.escrow_cells.specs.Step.{Does, same, is_in}
use Rattle.escrow_schema.specs.declared.stored.StoredTable.{StoredTable}
use Rattle.escrow_rows.specs.Image.{cells_in, cells_of, stored_named, tab_row, AreTables, AreRows, IsOfTables}
use Rattle.escrow_rows.specs.Changes.{Creates, Drops, without_stored}
use Rattle.escrow_schema.specs.Rows.{without_rows_of}
use Rattle.escrow_rows.proofs.Cells.{filter_pieces, is_in_row, numbers_tell, one_name, row_in, stands_has}
use Rattle.escrow_rows.proofs.Images.{image_after}
use Rattle.escrow_rows.proofs.Same.{same_numbers}

-- if the pieces of each item are the same, so are the whole lists
pub pieces_same : {A B : Type 0} (f g : A → List B) (xs : List A) → AllByRecursion (λ x. f x ≡ g x) xs → flat_map f xs ≡ flat_map g xs
pieces_same f g [] h = refl
pieces_same f g (x ∷ xs) h = rw (h.0, pieces_same f g xs h.1)

-- a list has the same items in any order
pub has_permutation : {A : Type 0} (xs ys : List A) → IsPermutation xs ys → (x : A) → Has xs x → Has ys x
has_permutation xs ys same x h = all_has (Has ys) xs (all-permutation (Has ys) ys xs (IsPermutation-sym xs ys same) (has_all (Has ys) ys (λ y k. k))) x h

-- a table that was found is found after tables are added
pub still_found : (tables after : List StoredTable) (name : List ℕ) (t : StoredTable) → AreTables after → ((x : StoredTable) → Has tables x → Has after x)
    → stored_named tables name ≡ Some t → stored_named after name ≡ Some t
still_found tables after name t are more found =
    let test : StoredTable → Bool = λ s. bytes_eq s.table.name name in
    let old = find_has test tables t found in
    let has = more t old.0 in
    let again = has_find test after t has old.1 in
    let new = find_has test after again.0 again.1 in
    let one : again.0 ≡ t = one_name after are again.0 t new.0 has (name_same _ _ new.1 ∙ sym (name_same _ _ old.1)) in
    again.1 ∙ ap Some one

-- rows have the same cells after tables are added
same_cells : (tables after : List StoredTable) (rows : List Row) → AreTables after → ((x : StoredTable) → Has tables x → Has after x) → AreRows tables rows
    → flat_map (cells_of tables) rows ≡ flat_map (cells_of after) rows
same_cells tables after rows are more of =
    pieces_same (cells_of tables) (cells_of after) rows
    (all_weaker (IsOfTables tables) _ (λ row has.
    let found = (row_in tables row has).1.found in
    ap (λ o. unwrap_or (option_map (λ s. cells_in s row) o) []) (found ∙ sym (still_found tables after row.name.table _ are more found))) rows of.of_tables)

-- the step of CREATE TABLE adds a table without rows
pub creates : (s : StoredTable) (id : ℤ) (name text : Bor (List ℕ)) → id ≡ s.id → name.now ≡ s.table.name → text.now ≡ canonical s.table
    → (old new : Database) → Does (step.InsertTab id name text ∷ []) old new → Creates s old new
creates s id name text number named written old new does tables after rows are of whole fine =
    image_after (step.InsertTab id name text ∷ []) tables after rows rows old new does (λ coded. record {
      tabs_are = rw (number, named, written) (IsPermutation-trans _ _ _ (IsPermutation-map tab_row after (s ∷ tables) (IsPermutation-sym _ _ whole)) (IsPermutation-cons (tab_row s) _ _ coded.tabs_are));
      cells_are = rw (← same_cells tables after rows fine (λ x k. has_permutation (s ∷ tables) after whole x (inr k)) of) coded.cells_are;
    })

-- if one test implies another, it finds the same item among the items that pass the other
find_filter : {A : Type 0} (p q : A → Bool) → ((x : A) → p x ≡ true → q x ≡ true) → (xs : List A) → find p (filter q xs) ≡ find p xs
find_filter p q implies [] = refl
find_filter p q implies (x ∷ xs) =
    let more = find_filter p q implies xs in
    elim (cases_Bool (p x)) [
      | inl t ↦ rw (implies x t, t) refl
      | inr f ↦ elim (cases_Bool (q x)) [ inl kept ↦ rw (kept, f) more | inr out ↦ rw (out, f) more ]
    ]

-- a table of another name is found after one table is removed
pub found_without : (tables : List StoredTable) (name other : List ℕ) → bytes_eq other name ≡ false → stored_named (without_stored name tables) other ≡ stored_named tables other
found_without tables name other apart =
    find_filter (λ s. bytes_eq s.table.name other) (λ s. not (bytes_eq s.table.name name))
    (λ s e. ap not (ap (λ n. bytes_eq n name) (name_same s.table.name other e) ∙ apart)) tables

-- rows of other tables have the same cells after a table is removed
cells_without : (tables : List StoredTable) (rows : List Row) (name : List ℕ)
    → flat_map (cells_of (without_stored name tables)) (without_rows_of name rows) ≡ flat_map (cells_of tables) (without_rows_of name rows)
cells_without tables rows name =
    let kept : Row → Bool = λ row. not (bytes_eq row.name.table name) in
    pieces_same (cells_of (without_stored name tables)) (cells_of tables) (without_rows_of name rows)
    (has_all _ (without_rows_of name rows) (λ row k.
    let apart = not-true (bytes_eq row.name.table name) (has_filter kept rows row k).1 in
    ap (λ o. unwrap_or (option_map (λ s. cells_in s row) o) []) (found_without tables name row.name.table apart)))

-- the cells that do not belong to a table are those of the other tables' rows
cells_left : (tables : List StoredTable) (rows : List Row) (s : StoredTable) → AreTables tables → AreRows tables rows → Has tables s
    → filter (λ cell. not (is_in (sql.Int s.id) cell)) (flat_map (cells_of tables) rows) ≡ flat_map (cells_of tables) (without_rows_of s.table.name rows)
cells_left tables rows s are of has =
    filter_pieces (cells_of tables) (λ cell. not (is_in (sql.Int s.id) cell)) (λ row. not (bytes_eq row.name.table s.table.name)) rows
    (all_weaker (IsOfTables tables) _ (λ row k. all_weaker _ _ (λ cell e. ap not e) (cells_of tables row) (is_in_row tables s row are has k)) rows of.of_tables)

-- the rows of TAB with other numbers are those of the other tables
pub tabs_left : (tables : List StoredTable) (s : StoredTable) → AreTables tables → Has tables s
    → filter (λ tab. not (same (column tab 0) (sql.Int s.id))) (map tab_row tables) ≡ map tab_row (without_stored s.table.name tables)
tabs_left tables s are has =
    filter-map (λ tab. not (same (column tab 0) (sql.Int s.id))) tab_row tables
    ∙ ap (map tab_row) (filter_same _ _ tables (has_all _ tables (λ t k. ap not (same_numbers t.id s.id ∙ numbers_tell tables are t s k has))))

-- the steps of DROP TABLE remove the table and its rows
pub drops : (s : StoredTable) (id : ℤ) → id ≡ s.id → (old new : Database) → Does (step.DeleteCells id ∷ step.DeleteTab id ∷ []) old new → Drops s old new
drops s id number old new does tables rows are of stands =
    let name = s.table.name in
    let has = stands_has tables s stands in
    image_after (step.DeleteCells id ∷ step.DeleteTab id ∷ []) tables (without_stored name tables) rows (without_rows_of name rows) old new does (λ coded. record {
      tabs_are = rw (number, ← tabs_left tables s are has) (IsPermutation-filter _ _ _ coded.tabs_are);
      cells_are = rw (number, cells_without tables rows name, ← cells_left tables rows s are of has) (IsPermutation-filter _ _ _ coded.cells_are);
    })
