-- What the three DELETEs remove from CELL and TAB.
use Rattle.std.proofs.Common.{◌≡◌, ℕ, ℤ, Bool, true, false, not, ◌&&◌, List, [], ◌∷◌, map, filter, codes, slice_get, Some, Ok, IsPermutation, refl, sym, ap, ◌∙◌}
use Rattle.std.specs.Prelude.{nat_lt}
use Rattle.std.specs.List.{list_any}
use Rattle.sqlite_value.specs.declared.value.Value.TheVariants.{Int}
use Rattle.sqlite_value.specs.Order.{Row, column}
use Rattle.sqlite_trees.specs.Tree.{rowid}
use Rattle.sqlite_trees.proofs.ListLemmas.{all_of, filter-map, filter_same, IsPermutation-same}
use Rattle.sqlite_sql.specs.Term.{Term, col}
use Rattle.sqlite_schema.specs.declared.schema.Table.{Table}
use Rattle.sqlite_schema.specs.declared.schema.Schema.{Schema}
use Rattle.sqlite_schema.specs.declared.command.Command.TheVariants.{Delete}
use Rattle.sqlite_rules.specs.declared.error.Rowids.TheVariants.{Given}
use Rattle.sqlite_rules.specs.Edit.{edit_of}
use Rattle.sqlite_rules.specs.Calls.{ids_of}
use Rattle.sqlite_tied.specs.Compute.{everything}
use Rattle.sqlite.specs.Effect.{Database}
use Rattle.sqlite.specs.Listing.{understood}
use Rattle.sqlite.specs.State.{State, Executes}
use Rattle.escrow_cells.specs.declared.datum.Datum.{Datum}
use Rattle.escrow_cells.specs.declared.step.Step.TheVariants as step
use Rattle.escrow_cells.specs.Tables.{tab, cell, tab_tree, cell_tree}
use Rattle.escrow_cells.specs.Store.{IsStore, NumbersDiffer, tabs, cells}
use Rattle.escrow_cells.specs.Step.{kept, same, is_in, is_of, Does, HoldsContents}
use Rattle.escrow_cells.proofs.Inside.{Edits, IsStatement, deletes, deletes_counted, wrote_by}
use Rattle.escrow_cells.proofs.Makes.{left_is}
use Rattle.escrow_cells.proofs.Leaves.{cell_of, tab_of, holds_cells, holds_tabs}
use Rattle.escrow_cells.proofs.Matches.{plain_query, passes, matched, any_matched}
use Rattle.escrow_cells.proofs.ReadTexts.{is_given}

abbrev pub row_text : List ℕ
row_text = codes "DELETE FROM CELL WHERE TAB = ?1 AND K = ?2"

abbrev pub cells_text : List ℕ
cells_text = codes "DELETE FROM CELL WHERE TAB = ?1"

abbrev pub tab_text : List ℕ
tab_text = codes "DELETE FROM TAB WHERE ID = ?1"

abbrev of_key : List Term
of_key = is_given 1 0 ∷ is_given 2 1 ∷ []

abbrev of_table : List Term
of_table = is_given 1 0 ∷ []

abbrev of_id : List Term
of_id = is_given 0 0 ∷ []

abbrev rowids : List Term
rowids = col 1 0 ∷ []

row_delete : IsStatement row_text (Delete 2 (record { lets = []; body = plain_query 4 of_key rowids }))
unfolding understood everything
row_delete = record { is = λ _ _ _. refl; plain = λ _ _ _. (refl, refl) }

cells_delete : IsStatement cells_text (Delete 2 (record { lets = []; body = plain_query 4 of_table rowids }))
unfolding understood everything
cells_delete = record { is = λ _ _ _. refl; plain = λ _ _ _. (refl, refl) }

tab_delete : IsStatement tab_text (Delete 1 (record { lets = []; body = plain_query 2 of_id rowids }))
unfolding understood everything
tab_delete = record { is = λ _ _ _. refl; plain = λ _ _ _. (refl, refl) }

-- ---- the remaining rows

abbrev gone_by : List Row → Database → Table → Database → Type 0
gone_by rows old table new = Edits old new (edit_of old.trees table (ids_of rows) Given 0 [])

abbrev AreFound : List Term → Row → List Row → List Row → Type 0
AreFound tests params rows found = IsPermutation (map (λ r. rowid r ∷ []) (filter (passes tests params) rows)) found

-- a DELETE removes the rows that pass its tests
module _ (sql : List ℕ) (params : Row) (old new : State) (store : IsStore old.now) (at : ℕ) (table : Table) (tests : List Term)
    (got : slice_get old.now.schema.tables at ≡ Some table) where
  deleted : IsStatement sql (Delete at (record { lets = []; body = plain_query table.tree tests rowids })) → (n : ℕ) → Executes sql params old new (Ok n)
      → (rows : List Row) × AreFound tests params (old.now.trees table.tree) rows × gone_by rows old.now table new.now
  deleted it n ran =
      let d = deletes old new table at got store.no_keys _ params n _ (wrote_by it params old new store.tables n ran) in
      (d.0, matched old.now params table.tree tests rowids d.0 d.1, d.2)

rows_left : (old new : Database) (table : Table) (tests : List Term) (params : Row) (rows : List Row) → NumbersDiffer (old.trees table.tree) → AreFound tests params (old.trees table.tree) rows → gone_by rows old table new
    → new.trees table.tree ≡ filter (λ r. not (passes tests params r)) (old.trees table.tree)
rows_left old new table tests params rows numbered found gone =
    gone.applies.rows ∙ left_is (passes tests params) (λ r. rowid r ∷ []) (old.trees table.tree) rows (λ r. refl) numbered found

-- a tree from which the passing rows were removed, in the terms of a step
shown_left : (f : Row → Row) (p q : Row → Bool) → ((r : Row) → p r ≡ q (f r)) → (rows left : List Row) → left ≡ filter (λ r. not (p r)) rows → IsPermutation (filter (λ x. not (q x)) (map f rows)) (map f left)
shown_left f p q told rows left is =
    IsPermutation-same _ _ (filter-map (λ x. not (q x)) f rows ∙ ap (map f) (filter_same _ (λ r. not (p r)) rows (all_of (λ r. not (q (f r)) ≡ not (p r)) (λ r. ap not (sym (told r))) rows) ∙ sym is))

-- a DELETE of cells
cells_deleted : (old new : Database) (store : IsStore old) (tests : List Term) (params : Row) (is : Row → Bool) → ((r : Row) → passes tests params r ≡ is (cell_of r)) → (rows : List Row)
    → AreFound tests params (old.trees cell_tree) rows → gone_by rows old cell new → HoldsContents (record { cells = filter (λ c. not (is c)) (cells old); tabs = tabs old }) old new
cells_deleted old new store tests params is told rows found gone =
    holds_cells old new _ store gone refl _ (shown_left cell_of (passes tests params) is told (old.trees cell_tree) (new.trees cell_tree) (rows_left old new cell tests params rows store.cells_numbered found gone))

last : (a : Bool) → (a && true) ≡ a
last true = refl
last false = refl

-- a cell passes exactly if it belongs to the row of the key
of_key_is : (table : ℤ) (key : Datum) (r : Row) → passes of_key (Int table ∷ kept key ∷ []) r ≡ is_of (Int table) (kept key) (cell_of r)
of_key_is table key r = ap (λ b. same (column r 1) (Int table) && b) (last (same (column r 2) (kept key)))

pub deletes_row : (table : ℤ) (key : Datum) (old new : State) (n : ℕ) → Executes row_text (Int table ∷ kept key ∷ []) old new (Ok n) → Does (step.DeleteRow table key ∷ []) old.now new.now
deletes_row table key old new n ran store =
    let params = Int table ∷ kept key ∷ [] in
    let gone = deleted row_text params old new store 2 cell of_key (ap (λ (s : Schema). slice_get s.tables 2) store.tables.is) row_delete n ran in
    cells_deleted old.now new.now store of_key params (is_of (Int table) (kept key)) (of_key_is table key) gone.0 gone.1 gone.2

-- the count reports whether the row existed
pub row_found : (table : ℤ) (key : Datum) (old new : State) (n : ℕ) → Executes row_text (Int table ∷ kept key ∷ []) old new (Ok n)
    → IsStore old.now → nat_lt 0 n ≡ list_any (is_of (Int table) (kept key)) (cells old.now)
row_found table key old new n ran store =
    let params = Int table ∷ kept key ∷ [] in
    let got = ap (λ (s : Schema). slice_get s.tables 2) store.tables.is in
    let w = wrote_by row_delete params old new store.tables n ran in
    let d = deletes old new cell 2 got store.no_keys _ params n _ w in
    ap (nat_lt 0) (deletes_counted old new cell 2 got store.no_keys _ params n _ w)
    ∙ any_matched of_key params (λ r. rowid r ∷ []) cell_of (is_of (Int table) (kept key)) (of_key_is table key) (old.now.trees cell_tree) d.0 (matched old.now params cell_tree of_key rowids d.0 d.1)

pub deletes_cells : (table : ℤ) (old new : State) (n : ℕ) → Executes cells_text (Int table ∷ []) old new (Ok n) → Does (step.DeleteCells table ∷ []) old.now new.now
deletes_cells table old new n ran store =
    let params = Int table ∷ [] in
    let gone = deleted cells_text params old new store 2 cell of_table (ap (λ (s : Schema). slice_get s.tables 2) store.tables.is) cells_delete n ran in
    cells_deleted old.now new.now store of_table params (is_in (Int table)) (λ r. last (same (column r 1) (Int table))) gone.0 gone.1 gone.2

pub deletes_tab : (id : ℤ) (old new : State) (n : ℕ) → Executes tab_text (Int id ∷ []) old new (Ok n) → Does (step.DeleteTab id ∷ []) old.now new.now
deletes_tab id old new n ran store =
    let params = Int id ∷ [] in
    let gone = deleted tab_text params old new store 1 tab of_id (ap (λ (s : Schema). slice_get s.tables 1) store.tables.is) tab_delete n ran in
    let left = rows_left old.now new.now tab of_id params gone.0 store.tabs_numbered gone.1 gone.2 in
    holds_tabs old.now new.now _ store gone.2 refl _
    (shown_left tab_of (passes of_id params) (λ x. same (column x 0) (Int id)) (λ r. last (same (rowid r) (Int id))) (old.now.trees tab_tree) (new.now.trees tab_tree) left)
