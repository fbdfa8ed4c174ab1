-- The cells show whether an image contains a row.
use Rattle.std.proofs.Common.{◌≡◌, ℕ, ℤ, zero, suc, pos, ◌+◌, ◌<◌, ◌||◌, Bool, true, false, cond, ◌&&◌, List, [], ◌∷◌, Some, find, flat_map, length, refl, sym, ap, ap₂, ◌∙◌, subst, inl, inr, arith}
use Rattle.std.specs.Prelude.{◌+ℤ◌, is_some, IsTrue}
use Rattle.std.specs.List.{AllByRecursion, list_any}
use Rattle.std.proofs.lemmas.Bool.{cases_Bool, or_left, or_right}
use Rattle.std.proofs.lemmas.Int.{ints}
use Rattle.std.proofs.lemmas.List.Folds.{list_any-append}
use Rattle.std.proofs.lemmas.List.Sorted.{list_any-IsPermutation}
use Rattle.sqlite_value.specs.declared.value.Value.TheVariants as sql
use Rattle.sqlite_value.specs.Order.{Row as SqlRow, column}
use Rattle.sqlite_trees.proofs.ListLemmas.{all_weaker}
use Rattle.sqlite_trees.specs.declared.store.Store.{Ghosts}
use Rattle.sqlite.specs.Effect.{Database}
use Rattle.sqlite.specs.Held.{Held, state}
use Rattle.escrow_num.specs.declared.row.Row.{Row}
use Rattle.escrow_num.specs.declared.value.Value.{Value}
use Rattle.escrow_num.specs.Order.{same_row}
use Rattle.escrow_num.proofs.Items.{all_has}
use Rattle.escrow_num.proofs.Orders.{row_same}
use Rattle.escrow_schema.specs.Definition.{IsTable}
use Rattle.escrow_schema.specs.Fit.{values_of}
use Rattle.escrow_schema.proofs.BackLemmas.{length-values_of}
use Rattle.escrow_schema.proofs.RuleLemmas.{key_stands}
use Rattle.escrow_cells.specs.declared.datum.Datum.{Datum}
use Rattle.escrow_cells.specs.declared.step.Step.{Step}
use Rattle.escrow_cells.specs.declared.step.Step.TheVariants as step
use Rattle.escrow_cells.specs.Step.{finds, kept, same, is_of, is_at}
use Rattle.escrow_cells.specs.Store.{IsStore, cells}
use Rattle.escrow_schema.specs.declared.stored.StoredTable.{StoredTable}
use Rattle.escrow_rows.specs.Answers.{Tells}
use Rattle.escrow_rows.specs.Changes.{Stands, is_there, name_in}
use Rattle.escrow_rows.specs.Image.{stored, cells_from, cells_in, cells_of, AreTables, IsOfTables}
use Rattle.escrow_rows.specs.Inside.{SetsCellOf}
use Rattle.escrow_rows.proofs.Cells.{is_of_row, row_in, row_of_stored, stands_has}
use Rattle.escrow_rows.proofs.Places.{same_itself}

-- ---- lists

-- some piece passes if some item has a piece that passes
any_pieces : {A B : Type 0} (f : A → List B) (p : B → Bool) (q : A → Bool) (xs : List A) → AllByRecursion (λ x. list_any p (f x) ≡ q x) xs → list_any p (flat_map f xs) ≡ list_any q xs
any_pieces f p q [] h = refl
any_pieces f p q (x ∷ xs) h = list_any-append p (f x) (flat_map f xs) ∙ ap₂ ◌||◌ h.0 (any_pieces f p q xs h.1)

any_found : {A : Type 0} (p : A → Bool) (xs : List A) → list_any p xs ≡ is_some (find p xs)
any_found p [] = refl
any_found p (x ∷ xs) = elim (p x) as (λ b. (b || list_any p xs) ≡ is_some (cond b (Some x) (find p xs))) [ true ↦ refl | false ↦ any_found p xs ]

-- if all items pass one test or all fail it, some item passes both exactly if all pass the first and some pass the
-- second
any_both : {A : Type 0} (p q : A → Bool) (b : Bool) (xs : List A) → AllByRecursion (λ x. p x ≡ b) xs → list_any (λ x. p x && q x) xs ≡ (b && list_any q xs)
any_both p q true [] h = refl
any_both p q false [] h = refl
any_both p q true (x ∷ xs) h = ap₂ (λ c d. (c && q x) || d) h.0 (any_both p q true xs h.1)
any_both p q false (x ∷ xs) h = ap₂ (λ c d. (c && q x) || d) h.0 (any_both p q false xs h.1)

-- if all items of a non-empty list pass a test or all fail it, some item passes exactly if all do
any_all : {A : Type 0} (p : A → Bool) (b : Bool) (xs : List A) → AllByRecursion (λ x. p x ≡ b) xs → 0 < length xs → list_any p xs ≡ b
any_all p b [] h some = absurd (omega (arith, some))
any_all p true (x ∷ xs) h some = or_left (p x) (list_any p xs) h.0
any_all p false (x ∷ xs) h some = ap₂ ◌||◌ h.0 (none xs h.1)
  where
    none : (ys : List _) → AllByRecursion (λ y. p y ≡ false) ys → list_any p ys ≡ false
    none [] k = refl
    none (y ∷ ys) k = ap₂ ◌||◌ k.0 (none ys k.1)

-- ---- the cells of a row

length-cells_from : (id : ℤ) (key : Value) (place : ℤ) (values : List Value) → length (cells_from id key place values) ≡ length values
length-cells_from id key place [] = refl
length-cells_from id key place (v ∷ values) = let rest = length-cells_from id key (place +ℤ pos 1) values in omega arith

-- each row of the tables has a cell
some_cells : (tables : List StoredTable) (row : Row) → AreTables tables → IsOfTables tables row → 0 < length (cells_of tables row)
some_cells tables row are of =
    let found = row_in tables row of in
    let t = found.0 in
    let table = all_has (λ (s : StoredTable). IsTable s.table) tables are.defined t found.1.has in
    let many = ap length found.1.cells ∙ length-cells_from t.id row.name.key (pos 1) (values_of t.table row) in
    omega (arith, many, length-values_of t.table row found.1.fits, key_stands t.table table)

-- one of a row's cells is at each place
any_place : (id : ℤ) (key : Value) (place : ℤ) (values : List Value) (i : ℕ) → i < length values
    → list_any (λ cell. same (column cell 2) (sql.Int (place +ℤ pos i))) (cells_from id key place values) ≡ true
any_place id key place [] i within = absurd (omega (arith, within))
any_place id key place (v ∷ values) zero within =
    let here : place ≡ place +ℤ pos 0 = omega (arith, ints) in
    or_left _ _ (subst (λ (p : ℤ). same (sql.Int place) (sql.Int p) ≡ true) here (same_itself place))
any_place id key place (v ∷ values) (suc i) within =
    let here : (place +ℤ pos 1) +ℤ pos i ≡ place +ℤ pos (suc i) = omega (arith, ints) in
    or_right _ _ (subst (λ (p : ℤ). list_any (λ cell. same (column cell 2) (sql.Int p)) (cells_from id key (place +ℤ pos 1) values) ≡ true) here (any_place id key (place +ℤ pos 1) values i (omega (arith, within))))

-- a row has a cell at the place of each column
placed_cell : (tables : List StoredTable) (s : StoredTable) (key : Value) (row : Row) (i : ℕ) → Stands tables s → IsOfTables tables row → same_row row.name (name_in s key) ≡ true → i < length s.table.columns
    → list_any (λ cell. same (column cell 2) (sql.Int (pos (i + 1)))) (cells_of tables row) ≡ true
placed_cell tables s key row i stands of mine within =
    let named = ap (λ n. n.table) (row_same row.name (name_in s key) mine) in
    let own = row_of_stored tables s row stands of named in
    let here : pos 1 +ℤ pos i ≡ pos (i + 1) = omega (arith, ints) in
    rw own.1 (subst (λ (p : ℤ). list_any (λ cell. same (column cell 2) (sql.Int p)) (cells_in s row) ≡ true) here
    (any_place s.id row.name.key (pos 1) (values_of s.table row) i (omega (arith, within, length-values_of s.table row own.0))))

-- ---- an image

-- a test that passes some cells of a key's row, and no other cell, shows whether the row exists
any_told : (s : StoredTable) (key : Value) (test : SqlRow → Bool)
    → ((tables : List StoredTable) (row : Row) → AreTables tables → Stands tables s → IsOfTables tables row → list_any test (cells_of tables row) ≡ same_row row.name (name_in s key))
    → (db : Database) → Tells s (is_there s key) db (list_any test (cells db))
any_told s key test each db tables rows are of stands image =
    let name = name_in s key in
    sym (list_any-IsPermutation test (flat_map (cells_of tables) rows) (cells db) image.cells_are)
    ∙ any_pieces (cells_of tables) test (λ row. same_row row.name name) rows (all_weaker (IsOfTables tables) _ (λ row has. each tables row are stands has) rows of.of_tables)
    ∙ any_found (λ row. same_row row.name name) rows

of_key : (s : StoredTable) (key : Value) (tables : List StoredTable) (row : Row) → AreTables tables → Stands tables s → IsOfTables tables row
    → list_any (is_of (sql.Int s.id) (stored key)) (cells_of tables row) ≡ same_row row.name (name_in s key)
of_key s key tables row are stands of =
    any_all (is_of (sql.Int s.id) (stored key)) (same_row row.name (name_in s key)) (cells_of tables row) (is_of_row tables s key row are (stands_has tables s stands) of) (some_cells tables row are of)

at_place : (s : StoredTable) (key : Value) (i : ℕ) → i < length s.table.columns → (tables : List StoredTable) (row : Row) → AreTables tables → Stands tables s → IsOfTables tables row
    → list_any (is_at (sql.Int s.id) (stored key) (sql.Int (pos (i + 1)))) (cells_of tables row) ≡ same_row row.name (name_in s key)
at_place s key i within tables row are stands of =
    let at = λ (cell : SqlRow). same (column cell 2) (sql.Int (pos (i + 1))) in
    let mine = same_row row.name (name_in s key) in
    any_both (is_of (sql.Int s.id) (stored key)) at mine (cells_of tables row) (is_of_row tables s key row are (stands_has tables s stands) of)
    ∙ elim (cases_Bool mine) [
      | inl own ↦ rw own (placed_cell tables s key row i stands of own within)
      | inr other ↦ rw other refl
    ]

-- what a DELETE finds, and what an UPDATE finds
pub delete_told : (s : StoredTable) (key : Value) (id : ℤ) (d : Datum) → id ≡ s.id → kept d ≡ stored key → (db : Database) → Tells s (is_there s key) db (finds (step.DeleteRow id d) (cells db))
delete_told s key id d number is db = rw (number, is) (any_told s key (is_of (sql.Int s.id) (stored key)) (of_key s key) db)

pub set_told : (s : StoredTable) (key : Value) (first : Step) → SetsCellOf s key first → (db : Database) → Tells s (is_there s key) db (finds first (cells db))
set_told s key (step.SetCell id k place value hint) sets db =
    rw (sets.0, sets.1, sets.4) (any_told s key (is_at (sql.Int s.id) (stored key) (sql.Int (pos (sets.2 + 1)))) (at_place s key sets.2 sets.3) db)
set_told s key (step.InsertCell table k place value) sets db = absurd sets
set_told s key (step.DeleteRow table k) sets db = absurd sets
set_told s key (step.DeleteCells table) sets db = absurd sets
set_told s key (step.InsertTab id name text) sets db = absurd sets
set_told s key (step.DeleteTab id) sets db = absurd sets

-- what is known of a store is known of the answer it gives
pub told_as : (s : StoredTable) (held : List Row → Bool) (db : Database) (found b : Bool) → (IsStore db → found ≡ b) → Tells s held db found → Tells s held db b
told_as s held db found b is told tables rows are of stands image = sym (is image.store) ∙ told tables rows are of stands image

-- the connection in the store is the one that the call saw, and the step found no row
pub none_as : {S : Type 0} (g : Ghosts S) (inside old : Held S) (s : StoredTable) (held : List Row → Bool) (first : Step) → inside ≡ old → ((db : Database) → Tells s held db (finds first (cells db)))
    → IsTrue (state g inside).is_open × (IsStore (state g inside).now → finds first (cells (state g inside).now) ≡ false) → IsTrue (state g old).is_open × Tells s held (state g old).now false
none_as g inside old s held first same told none =
    subst (λ (c : Held _). IsTrue (state g c).is_open × Tells s held (state g c).now false) same
    (none.0, told_as s held (state g inside).now (finds first (cells (state g inside).now)) false none.1 (told (state g inside).now))

pub delete_none : {S : Type 0} (g : Ghosts S) (inside old : Held S) (s : StoredTable) (key : Value) (id : ℤ) (d : Datum) → inside ≡ old → id ≡ s.id → kept d ≡ stored key
    → IsTrue (state g inside).is_open × (IsStore (state g inside).now → finds (step.DeleteRow id d) (cells (state g inside).now) ≡ false) → IsTrue (state g old).is_open × Tells s (is_there s key) (state g old).now false
delete_none g inside old s key id d same number is none = none_as g inside old s (is_there s key) (step.DeleteRow id d) same (delete_told s key id d number is) none
