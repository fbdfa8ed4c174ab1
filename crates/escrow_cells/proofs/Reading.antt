-- What the answers of the queries are.
use Rattle.std.proofs.Common.{◌≡◌, ℕ, ℤ, Bool, true, false, cond, ◌&&◌, List, [], ◌∷◌, Ordering, length, map, filter, refl, sym, ap, subst, ◌∙◌, IsPermutation, IsSorted, Result, Ok, Err, IfOk}
use Rattle.std.proofs.Math.Path.{fun_ext}
use Rattle.std.specs.Ordering.{on, then_cmp, ordering_then}
use Rattle.std.proofs.lemmas.List.{length-map}
use Rattle.std.proofs.lemmas.List.Sorted.{IsPermutation-map, length_permutation}
use Rattle.sqlite_value.specs.declared.value.Value.{Value}
use Rattle.sqlite_value.specs.declared.value.Value.TheVariants.{Null, Int}
use Rattle.sqlite_value.specs.Order.{Row, column, value_cmp}
use Rattle.sqlite_trees.specs.Tree.{rowid}
use Rattle.sqlite_trees.proofs.ListLemmas.{map-map, filter-map}
use Rattle.sqlite_sql.specs.Program.{overlay}
use Rattle.sqlite_sql.specs.Query.{Query, IsAnswer}
use Rattle.sqlite_exec.proofs.RowsLemmas.{IsSorted-map}
use Rattle.sqlite.specs.State.{State, Shown}
use Rattle.sqlite.proofs.Callers.{reads_as}
use Rattle.escrow_cells.specs.Numbered.{AreIds}
use Rattle.escrow_cells.specs.Store.{IsStore, HasTables, metas, cells, tabs}
use Rattle.escrow_cells.specs.Step.{same, is_in, is_of, is_at}
use Rattle.escrow_cells.specs.Read.{AreOfRow, AreOfTable, AreKeys, AreTabs, AreTablesOfCells}
use Rattle.escrow_cells.specs.Span.{AreOfSpan, AreOfSpans, is_from, is_up_to, is_within}
use Rattle.escrow_cells.specs.Tables.{beside, meta_tree, tab_tree, cell_tree}
use Rattle.escrow_cells.proofs.Pairs.{paired}
use Rattle.escrow_cells.proofs.Selects.{selected, then_equal, sorted_same}
use Rattle.escrow_cells.proofs.ReadTexts.{IsSelect, ids_query, tabs_text, tabs_select, row_text, row_select, span_text, span_select, table_text, table_select, spans_text, spans_select, keys_text, keys_select, place_text, place_select, metas_text, metas_select, owners_text, owners_select}

abbrev cell_of : Row → Row
cell_of r = column r 1 ∷ column r 2 ∷ column r 3 ∷ column r 4 ∷ []

abbrev tab_of : Row → Row
tab_of r = rowid r ∷ column r 2 ∷ column r 3 ∷ []

abbrev meta_of : Row → Row
meta_of r = column r 1 ∷ column r 2 ∷ []

abbrev by_first : Row → Row → Ordering
by_first = on (λ r. column r 0) value_cmp

abbrev by_two : Row → Row → Ordering
by_two = then_cmp by_first (on (λ r. column r 1) value_cmp)

and_true : (b : Bool) → (b && true) ≡ b
and_true true = refl
and_true false = refl

filter_all : {X : Type 0} (xs : List X) → filter (λ _. true) xs ≡ xs
filter_all [] = refl
filter_all (x ∷ xs) = ap (λ l. x ∷ l) (filter_all xs)

-- an answer's rows are CELL's cells that pass a test, each by what a row shows of it
permuted : (rows taken : List Row) (passes test : Row → Bool) (pick : Row → Row) → ((r : Row) → passes r ≡ test (cell_of r))
    → IsPermutation (filter passes rows) taken → IsPermutation (map pick (filter test (map cell_of rows))) (map (λ r. pick (cell_of r)) taken)
permuted rows taken passes test pick same perm =
    let shown : Row → Row = λ r. pick (cell_of r) in
    let by_test = ap (λ p. map shown (filter p rows)) (fun_ext same) in
    let cells_first = ap (map pick) (filter-map test cell_of rows) ∙ map-map pick cell_of (filter (λ r. test (cell_of r)) rows) in
    subst (λ l. IsPermutation l (map shown taken)) (by_test ∙ sym cells_first) (IsPermutation-map shown _ _ perm)

answer_of : {sql : List ℕ} {q : Query} {names : List (List ℕ)} → IsSelect sql q names → (params : Row) (old new : State) (rows : List Row) (has : HasTables old.now.schema) → Shown sql params old new rows
    → IsAnswer q (overlay old.now.trees []) params rows
answer_of it params old new rows has h =
    (reads_as _ params old new (beside has.more has.indexes has.views) has.is _ (it.command _ _ _) (it.plain _ _ _) (it.unlisted _ _ _) rows h).answer Null

pub tabs_shown : (old new : State) (rows : List Row) → Shown tabs_text [] old new rows → IsStore old.now → AreTabs (tabs old.now) rows
tabs_shown old new rows h store =
    let has = store.tables in
    let a = selected _ _ _ _ _ _ _ (answer_of tabs_select [] old new rows has h) in
    let perm = subst (λ l. IsPermutation l a.taken) (filter_all (old.now.trees tab_tree)) a.same in
    let by_id = sorted_same _ (λ x y. value_cmp (column x 0) (column y 0)) (λ x y. then_equal _) a.taken a.sorted in
    record {
      same_tabs = subst (IsPermutation (tabs old.now)) (sym a.shows) (IsPermutation-map tab_of _ _ perm);
      in_order = subst (IsSorted by_first) (sym a.shows) (IsSorted-map by_first tab_of a.taken by_id);
    }

pub row_shown : (table key : Value) (old new : State) (rows : List Row) → Shown row_text (table ∷ key ∷ []) old new rows → IsStore old.now
    → AreOfRow table key (cells old.now) rows
row_shown table key old new rows h store =
    let has = store.tables in
    let a = selected _ _ _ _ _ _ _ (answer_of row_select (table ∷ key ∷ []) old new rows has h) in
    let pick : Row → Row = λ c. column c 2 ∷ column c 3 ∷ [] in
    let by_place = sorted_same _ (λ x y. value_cmp (column x 3) (column y 3)) (λ x y. then_equal _) a.taken a.sorted in
    record {
      same_cells = subst (IsPermutation (map pick (filter (is_of table key) (cells old.now)))) (sym a.shows)
          (permuted (old.now.trees cell_tree) a.taken _ (is_of table key) pick (λ r. ap (λ b. same (column r 1) table && b) (and_true _)) a.same);
      in_order = subst (IsSorted by_first) (sym a.shows) (IsSorted-map by_first (λ r. pick (cell_of r)) a.taken by_place);
    }

filter_twice : {X : Type 0} (p q : X → Bool) (xs : List X) → filter (λ x. p x && q x) xs ≡ filter q (filter p xs)
filter_twice p q [] = refl
filter_twice p q (x ∷ xs) =
    elim (p x) as (λ b. cond (b && q x) (x ∷ filter (λ y. p y && q y) xs) (filter (λ y. p y && q y) xs) ≡ filter q (cond b (x ∷ filter p xs) (filter p xs)))
    [ true ↦ ap (λ l. cond (q x) (x ∷ l) l) (filter_twice p q xs) | false ↦ filter_twice p q xs ]

four_tests : (a b c d : Bool) → (a && (b && (c && (d && true)))) ≡ ((a && b) && (c && d))
four_tests true true c d = ap (λ e. c && e) (and_true d)
four_tests true false c d = refl
four_tests false b c d = refl

pub span_shown : (first last : ℤ) (table key : Value) (old new : State) (rows : List Row) → Shown span_text (table ∷ key ∷ Int first ∷ Int last ∷ []) old new rows → IsStore old.now
    → AreOfSpan first last table key (cells old.now) rows
span_shown first last table key old new rows h store =
    let has = store.tables in
    let a = selected _ _ _ _ _ _ _ (answer_of span_select (table ∷ key ∷ Int first ∷ Int last ∷ []) old new rows has h) in
    let pick : Row → Row = λ c. column c 2 ∷ column c 3 ∷ [] in
    let within : Row → Bool = λ r. is_within first last (column r 0) in
    let mine = filter (is_of table key) (cells old.now) in
    let by_place = sorted_same _ (λ x y. value_cmp (column x 3) (column y 3)) (λ x y. then_equal _) a.taken a.sorted in
    let tested = permuted (old.now.trees cell_tree) a.taken _ (λ c. is_of table key c && within (pick c)) pick (λ r. four_tests (is_in table (cell_of r)) (same (column r 2) key) (is_from first (column r 3)) (is_up_to last (column r 3))) a.same in
    let outside : map pick (filter (λ c. is_of table key c && within (pick c)) (cells old.now)) ≡ filter within (map pick mine) =
    ap (map pick) (filter_twice (is_of table key) (λ c. within (pick c)) (cells old.now)) ∙ sym (filter-map within pick mine) in
    record {
      same_cells = subst (IsPermutation (filter within (map pick mine))) (sym a.shows) (subst (λ l. IsPermutation l (map (λ r. pick (cell_of r)) a.taken)) outside tested);
      in_order = subst (IsSorted by_first) (sym a.shows) (IsSorted-map by_first (λ r. pick (cell_of r)) a.taken by_place);
    }

pub table_shown : (table : Value) (old new : State) (rows : List Row) → Shown table_text (table ∷ []) old new rows → IsStore old.now
    → AreOfTable table (cells old.now) rows
table_shown table old new rows h store =
    let has = store.tables in
    let a = selected _ _ _ _ _ _ _ (answer_of table_select (table ∷ []) old new rows has h) in
    let pick : Row → Row = λ c. column c 1 ∷ column c 2 ∷ column c 3 ∷ [] in
    let by_both = sorted_same _ (λ x y. ordering_then (value_cmp (column x 2) (column y 2)) (value_cmp (column x 3) (column y 3))) (λ x y. ap (ordering_then (value_cmp (column x 2) (column y 2))) (then_equal (value_cmp (column x 3) (column y 3)))) a.taken a.sorted in
    record {
      same_cells = subst (IsPermutation (map pick (filter (is_in table) (cells old.now)))) (sym a.shows)
          (permuted (old.now.trees cell_tree) a.taken _ (is_in table) pick (λ r. and_true _) a.same);
      in_order = subst (IsSorted by_two) (sym a.shows) (IsSorted-map by_two (λ r. pick (cell_of r)) a.taken by_both);
    }

first_three : (a b c : Bool) → (a && (b && (c && true))) ≡ (a && (c && b))
first_three true true c = and_true c ∙ sym (and_true c)
first_three true false true = refl
first_three true false false = refl
first_three false b c = refl

pub spans_shown : (first last : ℤ) (table : Value) (old new : State) (rows : List Row) → Shown spans_text (table ∷ Int first ∷ Int last ∷ []) old new rows → IsStore old.now
    → AreOfSpans first last table (cells old.now) rows
spans_shown first last table old new rows h store =
    let has = store.tables in
    let passes : Row → Bool = λ r. is_in table (cell_of r) && (is_up_to last (column r 3) && (is_from first (column r 3) && true)) in
    let a = paired _ _ _ _ _ _ passes (λ r s. refl) store.cells_numbered _ (answer_of spans_select (table ∷ Int first ∷ Int last ∷ []) old new rows has h) in
    let pick : Row → Row = λ c. column c 1 ∷ column c 2 ∷ column c 3 ∷ [] in
    let within : Row → Bool = λ r. is_within first last (column r 1) in
    let mine = filter (is_in table) (cells old.now) in
    let by_both = sorted_same _ (λ x y. ordering_then (value_cmp (column x 2) (column y 2)) (value_cmp (column x 3) (column y 3))) (λ x y. ap (ordering_then (value_cmp (column x 2) (column y 2))) (then_equal (value_cmp (column x 3) (column y 3)))) a.taken a.sorted in
    let tested = permuted (old.now.trees cell_tree) a.taken passes (λ c. is_in table c && within (pick c)) pick (λ r. first_three (is_in table (cell_of r)) (is_up_to last (column r 3)) (is_from first (column r 3))) a.same in
    let outside : map pick (filter (λ c. is_in table c && within (pick c)) (cells old.now)) ≡ filter within (map pick mine) =
    ap (map pick) (filter_twice (is_in table) (λ c. within (pick c)) (cells old.now)) ∙ sym (filter-map within pick mine) in
    record {
      same_cells = subst (IsPermutation (filter within (map pick mine))) (sym a.shows) (subst (λ l. IsPermutation l (map (λ r. pick (cell_of r)) a.taken)) outside tested);
      in_order = subst (IsSorted by_two) (sym a.shows) (IsSorted-map by_two (λ r. pick (cell_of r)) a.taken by_both);
    }

pub keys_shown : (table place : Value) (old new : State) (rows : List Row) → Shown keys_text (table ∷ place ∷ []) old new rows → IsStore old.now
    → AreKeys table place (cells old.now) rows
keys_shown table place old new rows h store =
    let has = store.tables in
    let a = selected _ _ _ _ _ _ _ (answer_of keys_select (table ∷ place ∷ []) old new rows has h) in
    let test : Row → Bool = λ c. is_in table c && same (column c 2) place in
    let pick : Row → Row = λ c. column c 1 ∷ [] in
    record {
      same_keys = subst (IsPermutation (map pick (filter test (cells old.now)))) (sym a.shows)
          (permuted (old.now.trees cell_tree) a.taken _ test pick (λ r. ap (λ b. same (column r 1) table && b) (and_true _)) a.same);
    }

three_tests : (a b c : Bool) → (a && (b && (c && true))) ≡ ((a && b) && c)
three_tests true true c = and_true c
three_tests true false c = refl
three_tests false b c = refl

-- the answer has as many rows as a key's row has cells at the place
pub place_counted : (table key place : Value) (params : Row) (old new : State) (rows : List Row) → Shown place_text params old new rows → params ≡ table ∷ key ∷ place ∷ [] → IsStore old.now
    → length rows ≡ length (filter (is_at table key place) (cells old.now))
place_counted table key place params old new rows h given store =
    let shown = subst (λ ps. Shown place_text ps old new rows) given h in
    let a = selected _ _ _ _ _ _ _ (answer_of place_select (table ∷ key ∷ place ∷ []) old new rows store.tables shown) in
    let pick : Row → Row = λ c. column c 2 ∷ [] in
    let same_places = subst (IsPermutation (map pick (filter (is_at table key place) (cells old.now)))) (sym a.shows)
    (permuted (old.now.trees cell_tree) a.taken _ (is_at table key place) pick (λ r. three_tests (is_in table (cell_of r)) (same (column r 2) key) (same (column r 3) place)) a.same) in
    length_permutation _ rows same_places ∙ simp length-map

pub metas_shown : (old new : State) (rows : List Row) → Shown metas_text [] old new rows → HasTables old.now.schema → IsPermutation (metas old.now) rows
metas_shown old new rows h has =
    let a = selected _ _ _ _ _ _ _ (answer_of metas_select [] old new rows has h) in
    let perm = subst (λ l. IsPermutation l a.taken) (filter_all (old.now.trees meta_tree)) a.same in
    subst (IsPermutation (metas old.now)) (sym a.shows) (IsPermutation-map meta_of _ _ perm)

pub owners_shown : (old new : State) (rows : List Row) → Shown owners_text [] old new rows → HasTables old.now.schema → AreTablesOfCells (cells old.now) rows
owners_shown old new rows h has =
    let a = selected _ _ _ _ _ _ _ (answer_of owners_select [] old new rows has h) in
    let pick : Row → Row = λ c. column c 0 ∷ [] in
    let perm = subst (λ l. IsPermutation l a.taken) (filter_all (old.now.trees cell_tree)) a.same in
    subst (IsPermutation (map pick (cells old.now))) (sym a.shows)
    (subst (λ l. IsPermutation l (map (λ r. pick (cell_of r)) a.taken)) (sym (map-map pick cell_of (old.now.trees cell_tree))) (IsPermutation-map (λ r. pick (cell_of r)) _ _ perm))

pub ids_shown : {text : List ℕ} {names : List (List ℕ)} (tree : ℕ) → IsSelect text (ids_query tree) names → (old new : State) → overlay old.now.trees [] tree ≡ old.now.trees tree
    → (rows : List Row) → Shown text [] old new rows → HasTables old.now.schema → AreIds (old.now.trees tree) rows
ids_shown tree it old new of_tree rows h has =
    let a = selected _ _ _ _ _ _ _ (answer_of it [] old new rows has h) in
    let perm = subst (λ l. IsPermutation l a.taken) (filter_all (overlay old.now.trees [] tree) ∙ of_tree) a.same in
    let by_number = sorted_same _ (λ x y. value_cmp (rowid x) (rowid y)) (λ x y. then_equal _) a.taken a.sorted in
    record {
      same_ids = subst (IsPermutation (map (λ r. rowid r ∷ []) (old.now.trees tree))) (sym a.shows) (IsPermutation-map (λ r. rowid r ∷ []) _ _ perm);
      in_order = subst (IsSorted (on rowid value_cmp)) (sym a.shows) (IsSorted-map (on rowid value_cmp) (λ r. rowid r ∷ []) a.taken by_number);
    }

-- the answer has as many keys as there are cells at the place
pub keys_count : (table place : Value) (all rows : List Row) → AreKeys table place all rows → length rows ≡ length (filter (λ c. is_in table c && same (column c 2) place) all)
keys_count table place all rows h = length_permutation _ rows h.same_keys ∙ simp length-map

-- what is known of each answer holds of one that was read completely; its parameters are equal to those it speaks of
pub all_answers : {X E : Type 0} (items : X → List Row) (sql : List ℕ) {ps qs : Row} (old new : State) {Premise : Type 0} {Answers : List Row → Type 0} (r : Result X E)
    → ((rows : List Row) → Shown sql qs old new rows → Premise → Answers rows) → IfOk r (λ x. Shown sql ps old new (items x)) → ps ≡ qs → IfOk r (λ x. Premise → Answers (items x))
all_answers items sql old new (Ok x) answers h e = answers (items x) (subst (λ params. Shown sql params old new (items x)) e h)
all_answers items sql old new (Err error) answers h e = tt
