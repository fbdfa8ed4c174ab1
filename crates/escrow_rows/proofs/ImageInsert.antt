-- INSERT: the image with one more row.
use Rattle.std.proofs.Common.{◌≡◌, ℕ, ◌+◌, ◌<◌, ◌≤◌, ℤ, pos, true, false, get_or, sym, take, inl, inr, Option, Some, None, List, [], ◌∷◌, ◌++◌, filter, length, length-append, refl, ap, ◌∙◌, subst, arith, append_assoc, IsPermutation}
use Rattle.std.specs.Prelude.{◌+ℤ◌, is_none, is_some, option_map, unwrap_or}
use Rattle.std.specs.Ordering.{is_lt}
use Rattle.std.proofs.lemmas.Bool.{cases_Bool}
use Rattle.std.proofs.lemmas.Int.{ints}
use Rattle.std.proofs.lemmas.List.{length-take, take_more}
use Rattle.std.proofs.lemmas.List.Elements.{filter-append}
use Rattle.std.proofs.lemmas.List.Sorted.{IsPermutation-append_right, IsPermutation-cons, IsPermutation-middle, IsPermutation-refl, IsPermutation-sym, IsPermutation-trans, length_permutation}
use Rattle.std.proofs.lemmas.List.Sums.{fold-append}
use Rattle.sqlite_value.specs.declared.value.Value.TheVariants as sql
use Rattle.sqlite_value.specs.Order.{Row as SqlRow}
use Rattle.sqlite_trees.proofs.ListLemmas.{IsPermutation-filter, IsPermutation-flat_map}
use Rattle.sqlite.specs.Effect.{Database}
use Rattle.escrow_num.specs.declared.row.Row.{Row}
use Rattle.escrow_num.specs.declared.value.Value.{Value}
use Rattle.escrow_num.specs.declared.value.RowName.{RowName}
use Rattle.escrow_num.specs.Order.{row_cmp}
use Rattle.escrow_num.proofs.Items.{all_has}
use Rattle.escrow_num.proofs.Orders.{same_value}
use Rattle.escrow_schema.specs.Definition.{IsTable}
use Rattle.escrow_schema.specs.Fit.{IsRowOf, values_of}
use Rattle.escrow_schema.proofs.BackLemmas.{length-values_of}
use Rattle.escrow_schema.proofs.RuleLemmas.{key_stands}
use Rattle.escrow_cells.specs.declared.datum.Datum.{Datum}
use Rattle.escrow_cells.specs.declared.step.Step.{Step}
use Rattle.escrow_cells.specs.declared.step.Step.TheVariants as step
use Rattle.escrow_cells.specs.Step.{Does, contents, done, is_at, kept, same}
use Rattle.escrow_cells.specs.Store.{cells}
use Rattle.escrow_cells.proofs.Unique.{one_at}
use Rattle.escrow_schema.specs.declared.stored.StoredTable.{StoredTable}
use Rattle.escrow_rows.specs.Image.{stored, cells_from, cells_in, cells_of, stored_named}
use Rattle.escrow_rows.specs.Answers.{Tells}
use Rattle.escrow_rows.specs.Changes.{Stands, Inserts, name_in}
use Rattle.escrow_schema.specs.Rows.{row_named, with_row}
use Rattle.escrow_rows.specs.Steps.{PutsCells}
use Rattle.escrow_rows.proofs.Cells.{stands_has}
use Rattle.escrow_rows.proofs.Images.{rows_after}
use Rattle.escrow_rows.proofs.Places.{same_itself}
use Rattle.escrow_rows.proofs.RowCounts.{tells_stands}
use Rattle.escrow_rows.proofs.Same.{same_stored}

-- an empty list of steps adds no cell
pub puts_none : PutsCells [] []
puts_none = record { cells_are = λ c. IsPermutation-refl c.cells; tabs_are = λ c. refl }

-- one more step adds one more cell
pub puts_more : (cells : List SqlRow) (steps : List Step) (id place : ℤ) (key value : Datum) → PutsCells cells steps
    → PutsCells (cells ++ (sql.Int id ∷ kept key ∷ sql.Int place ∷ kept value ∷ []) ∷ []) (steps ++ step.InsertCell id key place value ∷ [])
puts_more cells steps id place key value h =
    let cell : SqlRow = sql.Int id ∷ kept key ∷ sql.Int place ∷ kept value ∷ [] in
    let last : List Step = step.InsertCell id key place value ∷ [] in
    record {
      cells_are = λ c. rw (fold-append done c steps last, append_assoc cells (cell ∷ []) c.cells)
          (IsPermutation-trans _ _ _ (IsPermutation-middle cells cell c.cells) (IsPermutation-cons cell _ _ (h.cells_are c)));
      tabs_are = λ c. rw (fold-append done c steps last) (h.tabs_are c);
    }

-- the cells of one more value
pub cells_more : (id : ℤ) (key : Value) (place : ℤ) (values : List Value) (v : Value)
    → cells_from id key place (values ++ v ∷ []) ≡ cells_from id key place values ++ (sql.Int id ∷ stored key ∷ sql.Int (place +ℤ pos (length values)) ∷ stored v ∷ []) ∷ []
cells_more id key place [] v =
    let same : place ≡ place +ℤ pos 0 = omega (arith, ints) in
    ap (λ p. (sql.Int id ∷ stored key ∷ sql.Int p ∷ stored v ∷ []) ∷ []) same
cells_more id key place (w ∷ values) v =
    let same : (place +ℤ pos 1) +ℤ pos (length values) ≡ place +ℤ pos (length (w ∷ values)) = omega (arith, ints) in
    let more = cells_more id key (place +ℤ pos 1) values v in
    ap (λ rest. (sql.Int id ∷ stored key ∷ sql.Int place ∷ stored w ∷ []) ∷ rest)
    (subst (λ p. cells_from id key (place +ℤ pos 1) (values ++ v ∷ []) ≡ cells_from id key (place +ℤ pos 1) values ++ (sql.Int id ∷ stored key ∷ sql.Int p ∷ stored v ∷ []) ∷ []) same more)

-- one more step adds the cell of the next value
pub puts_next : (id : ℤ) (key : Value) (values : List Value) (i : ℕ) (v : Value) (steps : List Step) (place : ℤ) (k d : Datum) → i < length values → v ≡ get_or values i v
    → kept k ≡ stored key → kept d ≡ stored v → place ≡ pos 1 +ℤ pos i → PutsCells (cells_from id key (pos 1) (take i values)) steps
    → PutsCells (cells_from id key (pos 1) (take (i + 1) values)) (steps ++ step.InsertCell id k place d ∷ [])
puts_next id key values i v steps place k d within at is_key is_value here h =
    let long : length (take i values) ≡ i = omega (arith, length-take i values) in
    let next : take (i + 1) values ≡ take i values ++ v ∷ [] = take_more values i v within ∙ ap (λ x. take i values ++ x ∷ []) (sym at) in
    let whole = cells_more id key (pos 1) (take i values) v in
    let made = puts_more (cells_from id key (pos 1) (take i values)) steps id place k d h in
    rw (next, whole, long, ← is_key, ← is_value, ← here) made

-- a row added to the rows, in any order
with_row_moved : (row : Row) (rows : List Row) → IsPermutation (row ∷ rows) (with_row row rows)
with_row_moved row [] = IsPermutation-refl (row ∷ [])
with_row_moved row (other ∷ rest) =
    elim (cases_Bool (is_lt (row_cmp row.name other.name))) [
      | inl t ↦ rw t (IsPermutation-refl (row ∷ other ∷ rest))
      | inr f ↦ rw f (IsPermutation-trans _ _ _ (IsPermutation-middle (row ∷ []) other rest) (IsPermutation-cons other _ _ (with_row_moved row rest)))
    ]

-- the cells of a row of an existing table
cells_of_one : (tables : List StoredTable) (s : StoredTable) (row : Row) → row.name.table ≡ s.table.name → Stands tables s → cells_of tables row ≡ cells_in s row
cells_of_one tables s row named stands =
    ap (λ n. unwrap_or (option_map (λ t. cells_in t row) (stored_named tables n)) []) named ∙ ap (λ o. unwrap_or (option_map (λ t. cells_in t row) o) []) stands

-- steps that add the cells of a row's values add the row's cells
pub puts_row : (s : StoredTable) (row : Row) (id : ℤ) (values : List Value) (made steps : List Step) → id ≡ s.id → values ≡ values_of s.table row → steps ≡ made
    → PutsCells (cells_from id row.name.key (pos 1) values) made → PutsCells (cells_in s row) steps
puts_row s row id values made steps number is same h = rw (same, ← number, ← is) h

-- ---- the row is new

-- a row has a cell at the first place
first_counts : (id : ℤ) (key : Value) (values : List Value) → 0 < length values → 1 ≤ length (filter (is_at (sql.Int id) (stored key) (sql.Int (pos 1))) (cells_from id key (pos 1) values))
first_counts id key [] some = absurd (omega (arith, some))
first_counts id key (v ∷ values) some =
    let key_same : same (stored key) (stored key) ≡ true = same_stored key key ∙ same_value key in
    rw (same_itself id, key_same, same_itself (pos 1)) (omega arith)

not_some : (o : Option Row) → false ≡ is_some o → true ≡ is_none o
not_some None none = refl
not_some (Some row) none = absurd (cc)

-- if the cells of a row could be added, no row had its name: two cells of one key and place cannot both exist
is_new : (s : StoredTable) (row : Row) (steps : List Step) → IsRowOf s.table row → PutsCells (cells_in s row) steps → (old new : Database) → Does steps old new
    → Tells s (λ rows. is_none (row_named rows row.name)) old true
is_new s row steps fits puts old new does tables rows are of stands image =
    let key = row.name.key in
    let at = is_at (sql.Int s.id) (stored key) (sql.Int (pos 1)) in
    let holds = does image.store in
    let put : IsPermutation (cells_in s row ++ cells old) (cells new) = IsPermutation-trans _ _ _ (puts.cells_are (contents old)) holds.cells_are in
    let both : length (filter at (cells new)) ≡ length (filter at (cells_in s row) ++ filter at (cells old)) =
    length_permutation _ _ (IsPermutation-filter at _ _ put) ∙ ap length (filter-append at (cells_in s row) (cells old)) in
    let table = all_has (λ (t : StoredTable). IsTable t.table) tables are.defined s (stands_has tables s stands) in
    let one = first_counts s.id key (values_of s.table row) (omega (arith, length-values_of s.table row fits, key_stands s.table table)) in
    let once = one_at (sql.Int s.id) (stored key) (sql.Int (pos 1)) new holds.store in
    let none : 0 ≡ length (filter at (cells old)) = omega (arith, both, length-append (filter at (cells_in s row)) (filter at (cells old)), one, once) in
    let named : name_in s key ≡ row.name = ap (λ (table : List ℕ). record { table = table; key = key }) (sym fits.table_name) in
    let there : false ≡ is_some (row_named rows (name_in s key)) = tells_stands s key old 0 (λ _. none) tables rows are of stands image in
    not_some (row_named rows row.name) (subst (λ (n : RowName). false ≡ is_some (row_named rows n)) named there)

-- steps that add the cells of a row add the row
pub inserts : (s : StoredTable) (row : Row) (steps : List Step) → IsRowOf s.table row
    → PutsCells (cells_in s row) steps → (old new : Database) → Does steps old new → Inserts s row old new
inserts s row steps fits puts old new does =
    rows_after steps s (λ rows. is_none (row_named rows row.name)) (with_row row) old new does (is_new s row steps fits puts old new does) (λ tables rows are of stands c coded.
    let cells = cells_of tables in
    let moved = IsPermutation-flat_map cells _ _ (IsPermutation-sym _ _ (with_row_moved row rows)) in
    let joined = IsPermutation-append_right (cells row) _ _ coded.cells_are in
    let first = cells_of_one tables s row fits.table_name stands in
    record {
      tabs_are = rw (puts.tabs_are c) coded.tabs_are;
      cells_are = IsPermutation-trans _ _ _ moved (IsPermutation-trans _ _ _ joined (rw first (puts.cells_are c)));
    })
