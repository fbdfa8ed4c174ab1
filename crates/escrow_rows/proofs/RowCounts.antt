-- The number of a table's rows in an image, counted by the cells at the first place.
use Rattle.std.proofs.Common.{◌≡◌, ℕ, ℤ, pos, ◌<◌, nat_lt, Option, Some, None, Bool, false, ◌&&◌, List, [], ◌∷◌, ◌++◌, length, length-append, filter, flat_map, Result, Ok, Err, IsTrue, refl, ap, ◌∙◌, subst, subst₂, arith}
use Rattle.std.specs.Prelude.{◌+ℤ◌, IfOk, OnOk, bytes_eq, is_some, option_to_list}
use Rattle.std.specs.List.{AllByRecursion}
use Rattle.std.proofs.lemmas.List.Elements.{filter-append}
use Rattle.std.proofs.lemmas.List.Sorted.{length_permutation}
use Rattle.std.proofs.lemmas.Result.{IfOk-weaker}
use Rattle.sqlite_value.specs.declared.value.Value.{Value as Sql}
use Rattle.sqlite_value.specs.declared.value.Value.TheVariants as sql
use Rattle.sqlite_value.specs.Order.{Row as SqlRow, column}
use Rattle.sqlite_trees.proofs.ListLemmas.{all_weaker, filter_none, IsPermutation-filter}
use Rattle.sqlite_trees.specs.declared.store.Store.{Ghosts}
use Rattle.sqlite.specs.Effect.{Database}
use Rattle.sqlite.specs.Held.{Held, state}
use Rattle.escrow_num.specs.declared.row.Row.{Row}
use Rattle.escrow_num.specs.declared.value.Value.{Value}
use Rattle.escrow_num.specs.Order.{same_row}
use Rattle.escrow_num.proofs.Items.{all_filter, all_has}
use Rattle.escrow_schema.specs.Definition.{IsTable}
use Rattle.escrow_schema.specs.Fit.{values_of}
use Rattle.escrow_schema.proofs.BackLemmas.{length-values_of}
use Rattle.escrow_schema.proofs.RuleLemmas.{key_stands}
use Rattle.escrow_cells.specs.Step.{same, is_in, is_of, is_at}
use Rattle.escrow_cells.specs.Store.{IsStore, cells}
use Rattle.escrow_schema.specs.declared.stored.StoredTable.{StoredTable}
use Rattle.escrow_rows.specs.Answers.{Tells, TellsCount}
use Rattle.escrow_rows.specs.Image.{stored, cells_from, cells_of, AreTables, AreRows, IsOfTables}
use Rattle.escrow_schema.specs.Rows.{row_named, rows_of}
use Rattle.escrow_rows.specs.Changes.{Stands, name_in}
use Rattle.escrow_rows.proofs.Cells.{filter_pieces, is_in_row, is_of_row, row_in, stands_has}
use Rattle.escrow_rows.proofs.Found.{filter_twice}
use Rattle.escrow_rows.proofs.OneRow.{rows_named}
use Rattle.escrow_rows.proofs.Places.{same_itself, same_later, next_place, places_behind}

-- a cell is the first of its row
abbrev is_first : SqlRow → Bool
is_first cell = same (column cell 2) (sql.Int (pos 1))

first_cells : (id : ℤ) (key : Value) (values : List Value) → 0 < length values → length (filter is_first (cells_from id key (pos 1) values)) ≡ 1
first_cells id key [] h = absurd (omega arith)
first_cells id key (v ∷ values) h =
    let rest = cells_from id key (pos 1 +ℤ pos 1) values in
    let first : SqlRow = sql.Int id ∷ stored key ∷ sql.Int (pos 1) ∷ stored v ∷ [] in
    let behind : AllByRecursion (λ cell. is_first cell ≡ false) rest =
    places_behind (λ s. same s (sql.Int (pos 1)) ≡ false) (pos 1) (same_later (pos 1)) id key (pos 1 +ℤ pos 1) values (next_place (pos 1)) in
    rw (same_itself (pos 1)) (ap (λ (others : List SqlRow). length (first ∷ others)) (filter_none is_first rest behind))

-- each row of the tables has one first cell
one_first : (tables : List StoredTable) (row : Row) → AreTables tables → IsOfTables tables row → length (filter is_first (cells_of tables row)) ≡ 1
one_first tables row are of =
    let found = row_in tables row of in
    let t = found.0 in
    let table = all_has (λ (s : StoredTable). IsTable s.table) tables are.defined t found.1.has in
    let long = length-values_of t.table row found.1.fits in
    ap (λ cs. length (filter is_first cs)) found.1.cells
    ∙ first_cells t.id row.name.key (values_of t.table row) (omega (arith, long, key_stands t.table table))

-- if one piece of each item passes a test, as many pieces pass as there are items
pieces_counted : {A B : Type 0} (f : A → List B) (p : B → Bool) (xs : List A) → AllByRecursion (λ x. length (filter p (f x)) ≡ 1) xs → length (filter p (flat_map f xs)) ≡ length xs
pieces_counted f p [] h = refl
pieces_counted f p (x ∷ xs) h =
    let here : length (filter p (f x)) ≡ 1 = h.0 in
    let rest : length (filter p (flat_map f xs)) ≡ length xs = pieces_counted f p xs h.1 in
    let both : length (filter p (f x ++ flat_map f xs)) ≡ length (filter p (f x) ++ filter p (flat_map f xs)) = ap length (filter-append p (f x) (flat_map f xs)) in
    omega (arith, length-append (filter p (f x)) (filter p (flat_map f xs)))

-- as many rows pass a test as there are first cells of these rows
firsts_counted : (tables : List StoredTable) (rows : List Row) (test : SqlRow → Bool) (mine : Row → Bool) → AreTables tables → AreRows tables rows
    → AllByRecursion (λ row. AllByRecursion (λ cell. test cell ≡ mine row) (cells_of tables row)) rows
    → length (filter (λ c. test c && is_first c) (flat_map (cells_of tables) rows)) ≡ length (filter mine rows)
firsts_counted tables rows test mine are of tests =
    let firsts = all_weaker (IsOfTables tables) (λ row. length (filter is_first (cells_of tables row)) ≡ 1) (λ row has. one_first tables row are has) rows of.of_tables in
    ap length (filter_twice test is_first (flat_map (cells_of tables) rows) ∙ ap (filter is_first) (filter_pieces (cells_of tables) test mine rows tests))
    ∙ pieces_counted (cells_of tables) is_first (filter mine rows) (all_filter _ mine rows firsts)

-- a table of an image has as many rows as first cells
cells_count : (tables : List StoredTable) (rows : List Row) (s : StoredTable) → AreTables tables → AreRows tables rows → Stands tables s
    → length (filter (λ c. is_in (sql.Int s.id) c && is_first c) (flat_map (cells_of tables) rows)) ≡ length (rows_of rows s.table.name)
cells_count tables rows s are of stands =
    firsts_counted tables rows (is_in (sql.Int s.id)) (λ row. bytes_eq row.name.table s.table.name) are of
    (all_weaker (IsOfTables tables) _ (λ row has. is_in_row tables s row are (stands_has tables s stands) has) rows of.of_tables)

pub tells_count : (s : StoredTable) (db : Database) (n : ℕ) → (IsStore db → n ≡ length (filter (λ c. is_in (sql.Int s.id) c && is_first c) (cells db))) → TellsCount s db n
tells_count s db n counted tables rows are of stands image =
    counted image.store
    ∙ length_permutation _ _ (IsPermutation-filter (λ c. is_in (sql.Int s.id) c && is_first c) (flat_map (cells_of tables) rows) (cells db) image.cells_are)
    ∙ cells_count tables rows s are of stands

some_there : (o : Option Row) → nat_lt 0 (length (option_to_list o)) ≡ is_some o
some_there None = refl
some_there (Some row) = refl

-- an image has the row of a key exactly if it has that row's first cell
pub tells_stands : (s : StoredTable) (key : Value) (db : Database) (n : ℕ) → (IsStore db → n ≡ length (filter (is_at (sql.Int s.id) (stored key) (sql.Int (pos 1))) (cells db)))
    → Tells s (λ rows. is_some (row_named rows (name_in s key))) db (nat_lt 0 n)
tells_stands s key db n counted tables rows are of stands image =
    let name = name_in s key in
    let mine = firsts_counted tables rows (is_of (sql.Int s.id) (stored key)) (λ row. same_row row.name name) are of
    (all_weaker (IsOfTables tables) _ (λ row has. is_of_row tables s key row are (stands_has tables s stands) has) rows of.of_tables) in
    let cells_are = IsPermutation-filter (is_at (sql.Int s.id) (stored key) (sql.Int (pos 1))) (flat_map (cells_of tables) rows) (cells db) image.cells_are in
    ap (nat_lt 0) (counted image.store ∙ length_permutation _ _ cells_are ∙ mine ∙ ap length (rows_named rows name of.row_order)) ∙ some_there (row_named rows name)

-- if a result has a value, two facts about it hold together
both_ok : {T E : Type 0} (P : T → Type 0) (Q : Type 0) (r : Result T E) → IfOk r P → OnOk r Q → IfOk r (λ x. Q × P x)
both_ok P Q (Ok x) p q = (q, p)
both_ok P Q (Err e) p q = tt

-- the same for a store that a call has read
module _ {S : Type 0} (g : Ghosts S) (inside old new : Held S) (same_conn : inside ≡ old) where
  pub count_told_of : (s : StoredTable) (id : ℤ) {E : Type 0} (r : Result ℕ E) → id ≡ s.id
      → IfOk r (λ n. IsStore (state g inside).now → n ≡ length (filter (λ c. is_in (sql.Int id) c && is_first c) (cells (state g inside).now)))
      → OnOk r (IsTrue (state g new).is_open) → IfOk r (λ n. IsTrue (state g new).is_open × TellsCount s (state g old).now n)
  count_told_of s id r number h opened =
      both_ok (TellsCount s (state g old).now) (IsTrue (state g new).is_open) r
      (IfOk-weaker r _ (TellsCount s (state g old).now)
      (λ n told. tells_count s (state g old).now n
      (subst (λ (c : Held S). IsStore (state g c).now → n ≡ length (filter (λ cell. is_in (sql.Int s.id) cell && is_first cell) (cells (state g c).now))) same_conn
      (subst (λ (i : ℤ). IsStore (state g inside).now → n ≡ length (filter (λ cell. is_in (sql.Int i) cell && is_first cell) (cells (state g inside).now))) number told))) h)
      opened

  pub stands_told_of : (s : StoredTable) (key : Value) (id : ℤ) (k : Sql) (n : ℕ) → id ≡ s.id → k ≡ stored key
      → (IsStore (state g inside).now → n ≡ length (filter (is_at (sql.Int id) k (sql.Int (pos 1))) (cells (state g inside).now))) → Tells s (λ rows. is_some (row_named rows (name_in s key))) (state g old).now (nat_lt 0 n)
  stands_told_of s key id k n number same_key counted =
      tells_stands s key (state g old).now n
      (subst (λ (c : Held S). IsStore (state g c).now → n ≡ length (filter (is_at (sql.Int s.id) (stored key) (sql.Int (pos 1))) (cells (state g c).now))) same_conn
      (subst₂ (λ (i : ℤ) (v : Sql). IsStore (state g inside).now → n ≡ length (filter (is_at (sql.Int i) v (sql.Int (pos 1))) (cells (state g inside).now))) number same_key counted))
