-- What UPDATE does to CELL.
use Rattle.std.proofs.Common.{◌≡◌, ℕ, ℤ, Bool, true, false, not, ◌&&◌, None, cond, List, [], ◌∷◌, ◌++◌, map, filter, drop, codes, slice_get, Ok, IsPermutation, refl, sym, ap, ap₂, ◌∙◌, subst, subst₂}
use Rattle.std.specs.Prelude.{nat_lt}
use Rattle.std.specs.List.{AllByRecursion, list_any}
use Rattle.std.proofs.lemmas.Bool.{not-true}
use Rattle.std.proofs.lemmas.List.{map-append}
use Rattle.std.proofs.lemmas.List.Sorted.{IsPermutation-map, IsPermutation-trans, IsPermutation-append_left, IsPermutation-filter_both}
use Rattle.sqlite_value.specs.declared.value.Value.{Value}
use Rattle.sqlite_value.specs.declared.value.Value.TheVariants.{Int}
use Rattle.sqlite_value.specs.Order.{Row, column}
use Rattle.sqlite_trees.specs.Tree.{rowid}
use Rattle.sqlite_trees.proofs.ListLemmas.{map-map}
use Rattle.sqlite_sql.specs.Term.{Term, col, eval_all}
use Rattle.sqlite_schema.specs.declared.schema.Schema.{Schema}
use Rattle.sqlite_schema.specs.declared.command.Command.TheVariants.{Update}
use Rattle.sqlite_rules.specs.declared.error.Rowids.TheVariants.{Given}
use Rattle.sqlite_rules.specs.Lists.{Has}
use Rattle.sqlite_rules.specs.Cast.{cast_row}
use Rattle.sqlite_rules.specs.Edit.{put_all, are_fresh, without_all, numbered}
use Rattle.sqlite_rules.specs.Calls.{ids_of}
use Rattle.sqlite_rules.proofs.ListLemmas.{all_has, all_from, has_filtered}
use Rattle.sqlite_rules.proofs.PlaceLemmas.{given}
use Rattle.sqlite_tied.specs.Compute.{everything}
use Rattle.sqlite.specs.Listing.{understood}
use Rattle.sqlite.specs.State.{State, Executes}
use Rattle.escrow_cells.specs.declared.datum.Datum.{Datum}
use Rattle.escrow_cells.specs.declared.step.Step.TheVariants as step
use Rattle.escrow_cells.specs.Tables.{cell}
use Rattle.escrow_cells.specs.Store.{IsStore, NumbersDiffer, cells}
use Rattle.escrow_cells.specs.Step.{kept, same, is_at, with_value, Does}
use Rattle.escrow_cells.proofs.Inside.{IsStatement, updates, updates_counted, wrote_by}
use Rattle.escrow_cells.proofs.Makes.{put_beside, left_is}
use Rattle.escrow_cells.proofs.Columns.{IsWritten, all_written}
use Rattle.escrow_cells.proofs.Leaves.{cell_of, holds_cells}
use Rattle.escrow_cells.proofs.Matches.{plain_query, passes, matched, any_matched}
use Rattle.escrow_cells.proofs.ReadTexts.{is_given}

abbrev pub set_text : List ℕ
set_text = codes "UPDATE CELL SET V = ?4 WHERE TAB = ?1 AND K = ?2 AND C = ?3"

abbrev at_tests : List Term
at_tests = is_given 1 0 ∷ is_given 2 1 ∷ is_given 3 2 ∷ []

-- the rowid, followed by the row with the new value
abbrev pub set_terms : List Term
set_terms = col 1 0 ∷ col 1 0 ∷ col 1 1 ∷ col 1 2 ∷ col 1 3 ∷ col 0 3 ∷ []

set_statement : IsStatement set_text (Update 2 (record { lets = []; body = plain_query 4 at_tests set_terms }))
unfolding understood everything
set_statement = record { is = λ _ _ _. refl; plain = λ _ _ _. (refl, refl) }

-- ---- the list of cells

map_on : {X Y : Type 0} (f g : X → Y) (xs : List X) → AllByRecursion (λ x. f x ≡ g x) xs → map f xs ≡ map g xs
map_on f g [] h = refl
map_on f g (x ∷ xs) h = ap₂ ◌∷◌ h.0 (map_on f g xs h.1)

-- the rows that pass and those that do not, each part mapped by its own function
mapped_parts : {X Y : Type 0} (p : X → Bool) (f g h : X → Y) (xs : List X) → AllByRecursion (λ x. h x ≡ f x) (filter p xs) → AllByRecursion (λ x. h x ≡ g x) (filter (λ x. not (p x)) xs)
    → IsPermutation (map h xs) (map f (filter p xs) ++ map g (filter (λ x. not (p x)) xs))
mapped_parts p f g h xs passed failed =
    let both = IsPermutation-map h _ _ (IsPermutation-filter_both p (λ x. not (p x)) (λ x. refl) xs) in
    subst (IsPermutation (map h xs)) (map-append h (filter p xs) _ ∙ ap₂ ◌++◌ (map_on h f _ passed) (map_on h g _ failed)) both

-- ---- rows of CELL, of which some get a new value

-- what a statement writes in place of a row that it found
abbrev written_as : (Row → Row) → Row → Row
written_as found_by r = cast_row cell (drop 1 (found_by r))

-- The rows that pass are found, and written; `h` is what becomes of each cell.
module _ (p : Row → Bool) (found_by h : Row → Row) (keeps : (r : Row) → rowid (found_by r) ≡ rowid r) (rows found : List Row) (numbered_rows : NumbersDiffer rows) (same_rows : IsPermutation (map found_by (filter p rows)) found)
    (set : (r : Row) → Has rows r → p r ≡ true → h r ≡ cell_of (written_as found_by r)) (unset : (r : Row) → Has rows r → not (p r) ≡ true → h r ≡ cell_of r) where
  abbrev set_row : Row → Row
  set_row r = written_as found_by r

  abbrev left : List Row
  left = without_all rows (ids_of found)

  abbrev news : List Row
  news = numbered Given left (map (λ s. cast_row cell (drop 1 s)) found)

  abbrev taken : List Row
  taken = filter p rows

  abbrev others : List Row
  others = filter (λ r. not (p r)) rows

  told : IsPermutation (map h rows) (map (λ r. cell_of (set_row r)) taken ++ map cell_of others)
  told = mapped_parts p (λ r. cell_of (set_row r)) cell_of h rows
      (all_from _ taken (λ r is. let at = has_filtered p rows r is in set r at.0 at.1))
      (all_from _ others (λ r is. let at = has_filtered (λ x. not (p x)) rows r is in unset r at.0 at.1))

  news_are : IsPermutation (map set_row taken) news
  news_are = subst₂ IsPermutation (map-map (λ s. cast_row cell (drop 1 s)) found_by taken) (sym (given left _)) (IsPermutation-map (λ s. cast_row cell (drop 1 s)) _ found same_rows)

  left_are : left ≡ others
  left_are = left_is p found_by rows found keeps numbered_rows same_rows

  -- the cells after UPDATE are the old ones, each as told
  pub set_rows : are_fresh left news ≡ true → IsPermutation (map h rows) (map cell_of (put_all left news))
  set_rows fresh =
      let all = IsPermutation-trans _ _ _ (IsPermutation-append_left left _ _ news_are) (put_beside news left fresh) in
      let shown = IsPermutation-map cell_of _ _ all in
      let parts : map cell_of (map set_row taken ++ left) ≡ map (λ r. cell_of (set_row r)) taken ++ map cell_of others =
      map-append cell_of (map set_row taken) left ∙ ap₂ ◌++◌ (map-map cell_of set_row taken) (ap (map cell_of) left_are) in
      IsPermutation-trans _ _ _ told (subst (λ l. IsPermutation l (map cell_of (put_all left news))) parts shown)

-- ---- the cell of a table, a key and a place

pub three : (a b c : Bool) → (a && (b && (c && true))) ≡ ((a && b) && c)
three true true true = refl
three true true false = refl
three true false c = refl
three false b c = refl

module _ (table key place value : Value) where
  abbrev pub put : Row → Row
  put r = with_value table key place value (cell_of r)

  -- the cell at this place, with the new value
  pub put_at : (r : Row) → is_at table key place (cell_of r) ≡ true → IsWritten r → put r ≡ cell_of (cast_row cell (column r 0 ∷ column r 1 ∷ column r 2 ∷ column r 3 ∷ value ∷ []))
  put_at r at w =
      ap (λ b. cond b (column r 1 ∷ column r 2 ∷ column r 3 ∷ value ∷ []) (cell_of r)) at ∙ ap₂ (λ x y. x ∷ column r 2 ∷ y ∷ value ∷ []) (sym w.0) (sym w.1)

  -- any other cell
  pub put_beyond : (r : Row) → is_at table key place (cell_of r) ≡ false → put r ≡ cell_of r
  put_beyond r at = ap (λ b. cond b (column r 1 ∷ column r 2 ∷ column r 3 ∷ value ∷ []) (cell_of r)) at

  abbrev params : Row
  params = table ∷ key ∷ place ∷ value ∷ []

  abbrev found_by : Row → Row
  found_by r = eval_all set_terms (params ∷ r ∷ [])

  passes_at : (r : Row) → passes at_tests params r ≡ is_at table key place (cell_of r)
  passes_at r = three (same (column r 1) table) (same (column r 2) key) (same (column r 3) place)

-- UPDATE writes the new value to the cell
pub sets : (table : ℤ) (key : Datum) (place : ℤ) (value : Datum) (old new : State) (n : ℕ) → Executes set_text (Int table ∷ kept key ∷ Int place ∷ kept value ∷ []) old new (Ok n)
    → Does (step.SetCell table key place value None ∷ []) old.now new.now
sets table key place value old new n ran store =
    let t = store.tables in
    let given_params = params (Int table) (kept key) (Int place) (kept value) in
    let w = wrote_by set_statement given_params old new t n ran in
    let u = updates old new cell 2 (ap (λ (s : Schema). slice_get s.tables 2) t.is) store.no_keys _ given_params n _ w in
    let found = matched old.now given_params 4 at_tests set_terms u.0 u.1 in
    let cells_are = set_rows (passes at_tests given_params) (found_by (Int table) (kept key) (Int place) (kept value)) (put (Int table) (kept key) (Int place) (kept value)) (λ r. refl) (old.now.trees 4) u.0 store.cells_numbered found
    (λ r has at. put_at (Int table) (kept key) (Int place) (kept value) r (sym (passes_at (Int table) (kept key) (Int place) (kept value) r) ∙ at) (all_has IsWritten (old.now.trees 4) r (all_written old.now store) has))
    (λ r has at. put_beyond (Int table) (kept key) (Int place) (kept value) r (sym (passes_at (Int table) (kept key) (Int place) (kept value) r) ∙ not-true _ at)) u.2.applies.fresh in
    holds_cells old.now new.now _ store u.2 refl _ (rw (map-map (with_value (Int table) (kept key) (Int place) (kept value)) cell_of (old.now.trees 4), u.2.applies.rows) cells_are)

-- the count reports whether the cell exists
pub set_found : (table : ℤ) (key : Datum) (place : ℤ) (value : Datum) (old new : State) (n : ℕ) → Executes set_text (Int table ∷ kept key ∷ Int place ∷ kept value ∷ []) old new (Ok n)
    → IsStore old.now → nat_lt 0 n ≡ list_any (is_at (Int table) (kept key) (Int place)) (cells old.now)
set_found table key place value old new n ran store =
    let t = store.tables in
    let given_params = params (Int table) (kept key) (Int place) (kept value) in
    let got = ap (λ (s : Schema). slice_get s.tables 2) t.is in
    let w = wrote_by set_statement given_params old new t n ran in
    let u = updates old new cell 2 got store.no_keys _ given_params n _ w in
    ap (nat_lt 0) (updates_counted old new cell 2 got store.no_keys _ given_params n _ w)
    ∙ any_matched at_tests given_params (found_by (Int table) (kept key) (Int place) (kept value)) cell_of (is_at (Int table) (kept key) (Int place))
    (passes_at (Int table) (kept key) (Int place) (kept value)) (old.now.trees 4) u.0 (matched old.now given_params 4 at_tests set_terms u.0 u.1)
