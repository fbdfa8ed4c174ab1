-- The rows that a store holds are those of which it is the image.
use Rattle.std.proofs.Common.{◌≡◌, ℕ, pos, ◌<◌, false, List, [], ◌∷◌, ◌++◌, length, filter, flat_map, find, Option, Some, refl, ap, ap₂, ◌∙◌, subst, arith, IsPermutation}
use Rattle.std.specs.Prelude.{◌+ℤ◌, cond, option_and_then}
use Rattle.std.specs.List.{AllByRecursion}
use Rattle.std.specs.Option.{option_to_list}
use Rattle.std.proofs.lemmas.List.{append-nil}
use Rattle.sqlite_value.specs.declared.value.Value.TheVariants as sql
use Rattle.sqlite_value.specs.Order.{Row as SqlRow, column}
use Rattle.sqlite_trees.proofs.ListLemmas.{all_weaker, IsPermutation-flat_map}
use Rattle.sqlite.specs.Effect.{Database}
use Rattle.escrow_num.specs.declared.row.Row.{Row}
use Rattle.escrow_num.specs.declared.value.Value.{Value}
use Rattle.escrow_num.specs.Order.{same_row}
use Rattle.escrow_num.proofs.Items.{Has, all_has, has_all, find_has, has_find}
use Rattle.escrow_schema.specs.Definition.{IsTable}
use Rattle.escrow_schema.specs.Fit.{row_with, values_of}
use Rattle.escrow_schema.proofs.BackLemmas.{length-values_of, row_with_values_of}
use Rattle.escrow_schema.proofs.RuleLemmas.{key_stands}
use Rattle.escrow_cells.specs.Step.{same, is_of, is_at}
use Rattle.escrow_cells.specs.Store.{cells}
use Rattle.escrow_schema.specs.declared.stored.StoredTable.{StoredTable}
use Rattle.escrow_rows.specs.Image.{stored, cells_from, cells_in, cells_of, AreTables, AreRows, IsOfTables}
use Rattle.escrow_rows.specs.Changes.{name_in}
use Rattle.escrow_rows.specs.View.{kept_from, stored_numbered, row_at, rows_in}
use Rattle.escrow_rows.proofs.Cells.{IsRowIn, row_in, is_of_row, filter_pieces, one_number}
use Rattle.escrow_rows.proofs.Found.{find_permutation, filter_twice, flat_map_nothing, flat_map_back, one_row}
use Rattle.escrow_rows.proofs.Order.{in_order_permutation}
use Rattle.escrow_rows.proofs.Places.{same_itself, number_same, same_later, next_place, places_behind, one_cell, values_read}

-- the table with a number is found by it
numbered : (tables : List StoredTable) → AreTables tables → (t : StoredTable) → Has tables t → stored_numbered tables (sql.Int t.id) ≡ Some t
numbered tables are t has =
    let found = has_find (λ s. same (sql.Int s.id) (sql.Int t.id)) tables t has (same_itself t.id) in
    let passes = find_has (λ s. same (sql.Int s.id) (sql.Int t.id)) tables found.0 found.1 in
    found.1 ∙ ap Some (one_number tables are found.0 t passes.0 has (number_same found.0.id t.id passes.1))

-- only the first cell of a row stands for a row
none_later : (tables : List StoredTable) (all : List SqlRow) (cell : SqlRow) → same (column cell 2) (sql.Int (pos 1)) ≡ false → row_at tables all cell ≡ []
none_later tables all cell h = rw h refl

-- the row for which its first cell stands
row_of_first : (tables : List StoredTable) (all : List SqlRow) (t : StoredTable) (key v : Value) (row : Row) → stored_numbered tables (sql.Int t.id) ≡ Some t
    → row_with t.table (kept_from all t.id (stored key) (pos 1) t.table.columns) ≡ Some row
    → row_at tables all (sql.Int t.id ∷ stored key ∷ sql.Int (pos 1) ∷ stored v ∷ []) ≡ row ∷ []
row_of_first tables all t key v row found is =
    let make : StoredTable → Option Row = λ s. row_with s.table (kept_from all s.id (stored key) (pos 1) s.table.columns) in
    ap (λ b. cond b (option_to_list (option_and_then make (stored_numbered tables (sql.Int t.id)))) []) (same_itself (pos 1))
    ∙ ap (λ o. option_to_list (option_and_then make o)) found ∙ ap option_to_list is

-- the rows for which a row's cells stand
rows_of_cells : (tables : List StoredTable) (all : List SqlRow) (t : StoredTable) (key : Value) (values : List Value) (row : Row) → 0 < length values
    → stored_numbered tables (sql.Int t.id) ≡ Some t → row_with t.table (kept_from all t.id (stored key) (pos 1) t.table.columns) ≡ Some row
    → flat_map (row_at tables all) (cells_from t.id key (pos 1) values) ≡ row ∷ []
rows_of_cells tables all t key [] row long found is = absurd (omega arith)
rows_of_cells tables all t key (v ∷ values) row long found is =
    let rest = cells_from t.id key (pos 1 +ℤ pos 1) values in
    let behind : AllByRecursion (λ cell. same (column cell 2) (sql.Int (pos 1)) ≡ false) rest =
    places_behind (λ s. same s (sql.Int (pos 1)) ≡ false) (pos 1) (same_later (pos 1)) t.id key (pos 1 +ℤ pos 1) values (next_place (pos 1)) in
    ap₂ ◌++◌ (row_of_first tables all t key v row found is)
    (flat_map_nothing (row_at tables all) rest (all_weaker _ (λ cell. row_at tables all cell ≡ []) (none_later tables all) rest behind))

module _ (tables : List StoredTable) (rows : List Row) (all : List SqlRow) (are : AreTables tables) (of : AreRows tables rows) (same_cells : IsPermutation (flat_map (cells_of tables) rows) all) where
  -- the cells with a row's table and key are its own
  own_cells : (row : Row) (t : StoredTable) → Has rows row → IsRowIn tables row t
      → filter (is_of (sql.Int t.id) (stored row.name.key)) (flat_map (cells_of tables) rows) ≡ cells_in t row
  own_cells row t has is =
      let name : name_in t row.name.key ≡ row.name = ap (λ (table : List ℕ). record { table = table; key = row.name.key }) is.table_name in
      let tests = all_weaker (IsOfTables tables) (λ other. AllByRecursion (λ cell. is_of (sql.Int t.id) (stored row.name.key) cell ≡ same_row other.name row.name) (cells_of tables other))
      (λ other h. subst (λ n. AllByRecursion (λ cell. is_of (sql.Int t.id) (stored row.name.key) cell ≡ same_row other.name n) (cells_of tables other)) name
      (is_of_row tables t row.name.key other are is.has h)) rows of.of_tables in
      filter_pieces (cells_of tables) (is_of (sql.Int t.id) (stored row.name.key)) (λ other. same_row other.name row.name) rows tests
      ∙ ap (flat_map (cells_of tables)) (one_row rows row of.row_order has) ∙ append-nil (cells_of tables row) ∙ is.cells

  -- each of them is found at its place
  cells_found : (row : Row) (t : StoredTable) → Has rows row → IsRowIn tables row t
      → AllByRecursion (λ cell. find (is_at (sql.Int t.id) (stored row.name.key) (column cell 2)) all ≡ Some cell) (cells_in t row)
  cells_found row t has is =
      all_weaker (λ cell. filter (λ other. same (column other 2) (column cell 2)) (cells_in t row) ≡ cell ∷ []) _
      (λ cell only. find_permutation (is_at (sql.Int t.id) (stored row.name.key) (column cell 2)) (flat_map (cells_of tables) rows) all cell same_cells
      (filter_twice (is_of (sql.Int t.id) (stored row.name.key)) (λ other. same (column other 2) (column cell 2)) (flat_map (cells_of tables) rows)
      ∙ ap (filter (λ other. same (column other 2) (column cell 2))) (own_cells row t has is) ∙ only))
      (cells_in t row) (one_cell t.id row.name.key (pos 1) (values_of t.table row))

  -- a row's cells stand only for that row
  row_back : (row : Row) → Has rows row → flat_map (row_at tables all) (cells_of tables row) ≡ row ∷ []
  row_back row has =
      let found = row_in tables row (all_has (IsOfTables tables) rows of.of_tables row has) in
      let t = found.0 in
      let is = found.1 in
      let table = all_has (λ (s : StoredTable). IsTable s.table) tables are.defined t is.has in
      let long = length-values_of t.table row is.fits in
      let values = values_read all t.id row.name.key (pos 1) t.table.columns (values_of t.table row) long (cells_found row t has is) in
      ap (flat_map (row_at tables all)) is.cells
      ∙ rows_of_cells tables all t row.name.key (values_of t.table row) row (omega (arith, long, key_stands t.table table)) (numbered tables are t is.has)
      (ap (row_with t.table) values ∙ row_with_values_of t.table row table is.fits)

  -- the rows for which the cells stand are the rows, in any order
  pub rows_back : IsPermutation rows (flat_map (row_at tables all) all)
  rows_back =
      subst (λ others. IsPermutation others (flat_map (row_at tables all) all))
      (flat_map_back (cells_of tables) (row_at tables all) rows (has_all (λ row. flat_map (row_at tables all) (cells_of tables row) ≡ row ∷ []) rows row_back))
      (IsPermutation-flat_map (row_at tables all) (flat_map (cells_of tables) rows) all same_cells)

pub rows_are : (tables : List StoredTable) (rows : List Row) (db : Database) → AreTables tables → AreRows tables rows
    → IsPermutation (flat_map (cells_of tables) rows) (cells db) → rows_in tables db ≡ rows
rows_are tables rows db are of same_cells = in_order_permutation rows _ of.row_order (rows_back tables rows (cells db) are of same_cells)
