-- New values in the cells of a row: the image that contains them.
use Rattle.std.proofs.Common.{◌≡◌, ℤ, pos, true, Option, Some, None, List, [], ◌∷◌, ◌++◌, map, fold, flat_map, refl, sym, ap, ap₂, ◌∙◌, subst, inl, inr}
use Rattle.std.specs.Prelude.{IsSomeAnd, if◌then◌else◌, option_map, unwrap_or}
use Rattle.std.specs.List.{AllByRecursion}
use Rattle.std.proofs.lemmas.Bool.{cases_Bool}
use Rattle.std.proofs.lemmas.List.{map-append}
use Rattle.std.proofs.lemmas.List.Sorted.{IsPermutation-map}
use Rattle.std.proofs.lemmas.Option.{same_Some}
use Rattle.std.proofs.lemmas.Slice.Zip.{AllZip-long}
use Rattle.sqlite_value.specs.declared.value.Value.TheVariants as sql
use Rattle.sqlite_trees.proofs.ListLemmas.{all_weaker}
use Rattle.sqlite.specs.Effect.{Database}
use Rattle.escrow_num.specs.declared.row.Row.{Row}
use Rattle.escrow_num.specs.declared.value.RowName.{RowName}
use Rattle.escrow_num.specs.declared.value.Value.{Value}
use Rattle.escrow_num.specs.Order.{same_row}
use Rattle.escrow_num.proofs.Orders.{row_same}
use Rattle.escrow_schema.specs.Fit.{IsRowOf, values_of}
use Rattle.escrow_cells.specs.declared.step.Step.{Step}
use Rattle.escrow_cells.specs.Step.{Contents, Does, DoesFinding, done, finds, is_of}
use Rattle.escrow_cells.specs.Store.{cells}
use Rattle.escrow_rows.specs.declared.amounts.NewAmounts.{NewAmounts}
use Rattle.escrow_schema.specs.declared.stored.StoredTable.{StoredTable}
use Rattle.escrow_rows.specs.Image.{stored, cells_from, cells_in, cells_of, stored_named, AreTables, IsOfTables}
use Rattle.escrow_rows.specs.Changes.{Stands, SetsPlain, PutsAmounts, is_there, name_in, with_new_amounts, with_amounts, put_all}
use Rattle.escrow_schema.specs.Rows.{replaced, with_values, with_plain}
use Rattle.escrow_rows.specs.Inside.{Change, SetsCellOf, on_cells, put_values, new_plain, new_amounts, plain_on, amounts_on, all_on}
use Rattle.escrow_rows.proofs.Cells.{is_of_row, row_in, stands_has}
use Rattle.escrow_rows.proofs.Finding.{set_told, told_as}
use Rattle.escrow_rows.proofs.Images.{Encodes, image_after, rows_after}
use Rattle.escrow_rows.proofs.News.{plain_replaced, amounts_replaced, length_replaced}
use Rattle.escrow_rows.proofs.Puts.{puts_apart, replaced_cells}

-- if a function leaves each item unchanged, it leaves the list unchanged
map_same : {A : Type 0} (f : A → A) (xs : List A) → AllByRecursion (λ x. f x ≡ x) xs → map f xs ≡ xs
map_same f [] h = refl
map_same f (x ∷ xs) h = ap₂ ◌∷◌ h.0 (map_same f xs h.1)

-- if the pieces of each item change as the item does, the pieces of the whole list do
pieces_change : {A B : Type 0} (pieces : A → List B) (g : A → A) (f : B → B) (xs : List A)
    → AllByRecursion (λ x. pieces (g x) ≡ map f (pieces x)) xs → flat_map pieces (map g xs) ≡ map f (flat_map pieces xs)
pieces_change pieces g f [] h = refl
pieces_change pieces g f (x ∷ xs) h = ap₂ ◌++◌ h.0 (pieces_change pieces g f xs h.1) ∙ sym (map-append f (pieces x) (flat_map pieces xs))

-- the cells of a row that names an existing table
cells_named : (tables : List StoredTable) (s : StoredTable) (key : Value) (row : Row) → Stands tables s → row.name ≡ name_in s key
    → cells_of tables row ≡ cells_from s.id key (pos 1) (values_of s.table row)
cells_named tables s key row stands named =
    let found : stored_named tables row.name.table ≡ Some s = ap (λ (n : RowName). stored_named tables n.table) named ∙ stands in
    ap (λ (o : Option StoredTable). unwrap_or (option_map (λ t. cells_in t row) o) []) found
    ∙ ap (λ (n : RowName). cells_from s.id n.key (pos 1) (values_of s.table row)) named

-- a row that names an existing table fits that table
fits_named : (tables : List StoredTable) (s : StoredTable) (key : Value) (row : Row) → Stands tables s → IsOfTables tables row → row.name ≡ name_in s key → IsRowOf s.table row
fits_named tables s key row stands of named =
    let found = row_in tables row of in
    let one : found.0 ≡ s = same_Some found.0 s (sym found.1.found ∙ ap (λ (n : RowName). stored_named tables n.table) named ∙ stands) in
    subst (λ (t : StoredTable). IsRowOf t.table row) one found.1.fits

-- if the row of a key is replaced by one with the same name and new values, the new values are written to its cells
cells_change : (tables : List StoredTable) (s : StoredTable) (key : Value) (news : List (Option Value)) (row other : Row) → AreTables tables → Stands tables s → IsOfTables tables row
    → other.name ≡ row.name → (IsRowOf s.table row → values_of s.table other ≡ replaced news (values_of s.table row))
    → cells_of tables (if same_row row.name (name_in s key) then other else row) ≡ map (put_values s.id (stored key) (pos 1) news) (cells_of tables row)
cells_change tables s key news row other are stands of named values =
    let put = put_values s.id (stored key) (pos 1) news in
    elim (cases_Bool (same_row row.name (name_in s key))) [
      | inl t ↦ (let here = row_same row.name (name_in s key) t in
          rw t (
          cells_named tables s key other stands (named ∙ here)
          ∙ ap (cells_from s.id key (pos 1)) (values (fits_named tables s key row stands of here))
          ∙ replaced_cells s.id key (pos 1) news (values_of s.table row)
          ∙ ap (map put) (sym (cells_named tables s key row stands here))))
      | inr n ↦ rw n (sym (map_same put (cells_of tables row)
          (all_weaker (λ cell. is_of (sql.Int s.id) (stored key) cell ≡ same_row row.name (name_in s key)) (λ cell. put cell ≡ cell)
          (λ cell e. puts_apart s.id (stored key) (pos 1) news cell (e ∙ n)) (cells_of tables row)
          (is_of_row tables s key row are (stands_has tables s stands) of))))
    ]

-- UPDATE of plain columns: the cells of a row whose plain values are replaced
plain_cells : (tables : List StoredTable) (s : StoredTable) (key : Value) (news : List (Option Value)) (row : Row) → AreTables tables → Stands tables s → IsOfTables tables row
    → cells_of tables (with_values (name_in s key) news row) ≡ map (plain_on s key news) (cells_of tables row)
plain_cells tables s key news row are stands of =
    cells_change tables s key (new_plain s.table.columns 0 s.table.key news) row (record row { plain = replaced news row.plain }) are stands of refl
    (λ fits. plain_replaced s.table.columns 0 s.table.key row.name.key row.amounts row.plain news fits.amounts (AllZip-long _ _ row.plain fits.plain))

pub sets_plain : (s : StoredTable) (key : Value) (news : List (Option Value)) (first : Step) (rest : List Step) → Change (first ∷ rest) (plain_on s key news) → SetsCellOf s key first
    → (old new : Database) → DoesFinding first rest old new → SetsPlain s key news old new
sets_plain s key news first rest change sets old new finding =
    rows_after (first ∷ rest) s (is_there s key) (with_plain (name_in s key) news) old new finding.does
    (told_as s (is_there s key) old (finds first (cells old)) true finding.found (set_told s key first sets old)) (λ tables rows are of stands c coded. rw (change c) (record {
      tabs_are = coded.tabs_are;
      cells_are = rw (pieces_change (cells_of tables) (with_values (name_in s key) news) (plain_on s key news) rows
          (all_weaker (IsOfTables tables) _ (λ row has. plain_cells tables s key news row are stands has) rows of.of_tables))
          (IsPermutation-map (plain_on s key news) (flat_map (cells_of tables) rows) c.cells coded.cells_are);
    }))

-- COMMIT: the cells of a row whose amounts are replaced
amount_cells : (tables : List StoredTable) (new : NewAmounts) (row : Row) → AreTables tables → Stands tables new.table.now → IsOfTables tables row
    → cells_of tables (with_new_amounts (name_in new.table.now new.key.now) new.amounts row) ≡ map (amounts_on new) (cells_of tables row)
amount_cells tables new row are stands of =
    let s = new.table.now in
    let news = new.amounts in
    cells_change tables s new.key.now (new_amounts s.table.columns news) row (record row { amounts = replaced news row.amounts }) are stands of refl
    (λ fits. amounts_replaced s.table.columns 0 s.table.key row.name.key row.amounts row.plain news fits.amounts (AllZip-long _ _ row.plain fits.plain))

-- a row whose amounts are replaced fits its table
amounts_fit : (tables : List StoredTable) (name : RowName) (news : List (Option ℤ)) (row : Row) → IsOfTables tables row → IsOfTables tables (with_new_amounts name news row)
amounts_fit tables name news row of =
    elim (cases_Bool (same_row row.name name)) [ inl t ↦ rw t (go (stored_named tables row.name.table) of) | inr n ↦ rw n of ]
  where
    go : (o : Option StoredTable) → IsSomeAnd o (λ s. IsRowOf s.table row) → IsSomeAnd o (λ s. IsRowOf s.table (record row { amounts = replaced news row.amounts }))
    go None h = h
    go (Some s) h = record { table_name = h.table_name; key = h.key; plain = h.plain; amounts = length_replaced news row.amounts ∙ h.amounts }

-- new amounts, one after another
all_encode : (tables : List StoredTable) (news : List NewAmounts) (rows : List Row) (c : Contents) → AreTables tables
    → AllByRecursion (λ (n : NewAmounts). Stands tables n.table.now) news → AllByRecursion (IsOfTables tables) rows
    → Encodes tables rows c → Encodes tables (put_all news rows) (all_on news c)
all_encode tables [] rows c are stand of coded = coded
all_encode tables (new ∷ news) rows c are stand of coded =
    let name = name_in new.table.now new.key.now in
    let amounts = new.amounts in
    let here = pieces_change (cells_of tables) (with_new_amounts name amounts) (amounts_on new) rows
    (all_weaker (IsOfTables tables) _ (λ row has. amount_cells tables new row are stand.0 has) rows of) in
    all_encode tables news (with_amounts name amounts rows) (on_cells (amounts_on new) c) are stand.1 (fit rows of) (record {
      tabs_are = coded.tabs_are;
      cells_are = rw here (IsPermutation-map (amounts_on new) (flat_map (cells_of tables) rows) c.cells coded.cells_are);
    })
  where
    fit : (rows : List Row) → AllByRecursion (IsOfTables tables) rows → AllByRecursion (IsOfTables tables) (with_amounts (name_in new.table.now new.key.now) new.amounts rows)
    fit [] h = h
    fit (row ∷ rows) h = (amounts_fit tables (name_in new.table.now new.key.now) new.amounts row h.0, fit rows h.1)

pub puts_amounts : (news : List NewAmounts) (steps : List Step) → ((c : Contents) → fold done c steps ≡ all_on news c) → (old new : Database) → Does steps old new → PutsAmounts news old new
puts_amounts news steps change old new does tables rows are of stand =
    image_after steps tables tables rows (put_all news rows) old new does (λ coded. rw (change _) (all_encode tables news rows _ are stand of.of_tables coded))
