-- What a store of tables and rows contains for each table.
use Rattle.std.proofs.Common.{◌≡◌, ℕ, ℤ, pos, inl, inr, true, Option, Some, List, [], ◌∷◌, map, filter, find, flat_map, sym, ap, ◌∙◌, subst, IsPermutation}
use Rattle.std.specs.Prelude.{IsSomeAnd, bytes_eq, option_map}
use Rattle.std.specs.List.{AllByRecursion}
use Rattle.std.proofs.lemmas.List.Sorted.{IsPermutation-map, IsPermutation-sym, IsPermutation-trans}
use Rattle.sqlite_value.specs.declared.value.Value.TheVariants as sql
use Rattle.sqlite_value.specs.Order.{Row as SqlRow, column}
use Rattle.sqlite_trees.proofs.ListLemmas.{all-flat_map, all-permutation, all_weaker, flat_map_same_on, map-flat_map, IsPermutation-filter}
use Rattle.sqlite.specs.Effect.{Database}
use Rattle.escrow_num.specs.declared.row.Row.{Row}
use Rattle.escrow_num.proofs.Ascending.{ascending_filter}
use Rattle.escrow_num.proofs.Items.{Has, all_has, has_all, has_filter, has_map}
use Rattle.escrow_num.proofs.Orders.{name_same}
use Rattle.escrow_checks.specs.Grant.{Meets}
use Rattle.escrow_schema.specs.declared.table.TableDef.{TableDef}
use Rattle.escrow_schema.specs.Catalog.{table_named}
use Rattle.escrow_schema.specs.Fit.{IsRowOf, values_of}
use Rattle.escrow_cells.specs.Step.{is_in}
use Rattle.escrow_cells.specs.Store.{cells}
use Rattle.escrow_schema.specs.declared.stored.StoredTable.{StoredTable}
use Rattle.escrow_rows.specs.Changes.{Stands}
use Rattle.escrow_rows.specs.Image.{CanBeHeld, IsOfTables, cells_in, cells_of, tab_row}
use Rattle.escrow_schema.specs.Rows.{row_before, rows_of, MeetsChecks}
use Rattle.escrow_rows.proofs.Cells.{cells_name, filter_pieces, is_in_row, row_in, row_of_stored}
use Rattle.escrow_rows.proofs.ImageTables.{has_permutation, pieces_same}
use Rattle.escrow_rows.proofs.KeyedCells.{with_key, cells_keyed}
use Rattle.escrow_rows.specs.Placed.{keyed_cells}
use Rattle.escrow_recover.specs.Inside.{AreOfTables, AreRowsIn, AreTablesIn, IsKnown, IsNumberOf, IsSoundRow}
use Rattle.escrow_recover.specs.Stored.{HasHeldValues, IsStoreIn}
use Rattle.escrow_recover.proofs.Parts.{find_mapped, found_named}
use Rattle.escrow_recover.proofs.Split.{has_number}

-- a store of tables and rows has the known format and these tables
pub store_known : {number : ℤ} (tables : List StoredTable) (rows : List Row) (db : Database) → IsStoreIn number tables rows db → IsKnown number db
store_known tables rows db is = record { store = is.image.store; format_is = is.image.format_is }

pub store_tables : {number : ℤ} (tables : List StoredTable) (rows : List Row) (db : Database) → IsStoreIn number tables rows db → AreTablesIn tables db
store_tables tables rows db is = record { are_tables = is.are_tables; tabs_are = is.image.tabs_are }

-- the table of a stored number is one of the tables that TAB's rows describe
number_kept : (tables : List StoredTable) (s t : StoredTable) → Has tables t → tab_row t ≡ tab_row s → IsNumberOf tables (sql.Int s.id)
number_kept tables s t has same =
    let number : sql.Int t.id ≡ sql.Int s.id = ap (λ (r : SqlRow). column r 0) same in
    (t.id, sym number, has_number tables t has)

-- each cell of a store belongs to one of the tables that TAB's rows describe
pub store_cells : {number : ℤ} (found tables : List StoredTable) (rows : List Row) (db : Database) → AreTablesIn found db → IsStoreIn number tables rows db → AreOfTables found db
store_cells found tables rows db in_store is =
    let same : IsPermutation (map tab_row tables) (map tab_row found) = IsPermutation-trans _ _ _ is.image.tabs_are (IsPermutation-sym _ _ in_store.tabs_are) in
    all-permutation (λ c. IsNumberOf found (column c 0)) (flat_map (cells_of tables) rows) (cells db) is.image.cells_are
    (all-flat_map (λ c. IsNumberOf found (column c 0)) (cells_of tables) rows
    (all_weaker (IsOfTables tables) _ (λ row has.
    let table = row_in tables row has in
    let t = table.0 in
    let kept = has_map tab_row found (tab_row t) (has_permutation (map tab_row tables) (map tab_row found) same (tab_row t) (mapped tables t table.1.has)) in
    let number = number_kept found t kept.0 kept.1 kept.2 in
    subst (AllByRecursion (λ c. IsNumberOf found (column c 0))) (sym table.1.cells)
    (all_weaker _ (λ c. IsNumberOf found (column c 0)) (λ c named. subst (IsNumberOf found) (sym named.0) number) (cells_in t row) (cells_name t.id row.name.key (pos 1) (values_of t.table row)))) rows is.are_rows.of_tables))
  where
    mapped : (ts : List StoredTable) (t : StoredTable) → Has ts t → Has (map tab_row ts) (tab_row t)
    mapped [] t h = absurd h
    mapped (u ∷ ts) t (inl e) = inl (ap tab_row e)
    mapped (u ∷ ts) t (inr h) = inr (mapped ts t h)

-- the store has each table's rows
pub store_rows : {number : ℤ} (tables : List StoredTable) (rows : List Row) (db : Database) (s : StoredTable) → Has tables s → IsStoreIn number tables rows db → AreRowsIn s (rows_of rows s.table.name) db
store_rows tables rows db s has is =
    let mine = rows_of rows s.table.name in
    let stands : Stands tables s = found_named tables is.are_tables s has in
    let named : (row : Row) → Has mine row → Has rows row × (bytes_eq row.name.table s.table.name ≡ true) = λ row. has_filter (λ (r : Row). bytes_eq r.name.table s.table.name) rows row in
    let of_stored : (row : Row) → Has mine row → IsRowOf s.table row × (cells_of tables row ≡ cells_in s row) =
    λ row k. row_of_stored tables s row stands (all_has (IsOfTables tables) rows is.are_rows.of_tables row (named row k).0) (name_same _ _ (named row k).1) in
    let definition : (row : Row) → Has mine row → table_named (map (λ (t : StoredTable). t.table) tables) row.name.table ≡ Some s.table =
    λ row k. find_mapped (λ (t : TableDef). bytes_eq t.name row.name.table) (λ (t : StoredTable). t.table) tables
    ∙ ap (λ (n : List ℕ). option_map (λ (t : StoredTable). t.table) (find (λ (t : StoredTable). bytes_eq t.table.name n) tables)) (name_same _ _ (named row k).1)
    ∙ ap (option_map (λ (t : StoredTable). t.table)) stands in
    let cells_here : filter (is_in (sql.Int s.id)) (flat_map (cells_of tables) rows) ≡ flat_map (cells_in s) mine =
    filter_pieces (cells_of tables) (is_in (sql.Int s.id)) (λ (row : Row). bytes_eq row.name.table s.table.name) rows
    (all_weaker (IsOfTables tables) _ (λ row of. is_in_row tables s row is.are_tables has of) rows is.are_rows.of_tables)
    ∙ pieces_same _ _ mine (has_all _ mine (λ row k. (of_stored row k).1)) in
    let keyed : map with_key (flat_map (cells_in s) mine) ≡ flat_map (keyed_cells s.table) mine =
    map-flat_map with_key (cells_in s) mine ∙ flat_map_same_on _ (keyed_cells s.table) (λ row. cells_keyed s.id row.name.key 1 (values_of s.table row)) mine in
    record {
      sound = has_all (IsSoundRow s.table) mine (λ row k. record {
        is_row = (of_stored row k).0;
        meets = subst (λ (o : Option TableDef). IsSomeAnd o (λ table. AllByRecursion (λ check. Meets check row.amounts) table.checks)) (definition row k) (all_has (MeetsChecks (map (λ (t : StoredTable). t.table) tables)) rows is.meet row (named row k).0);
        held = subst (λ (o : Option TableDef). IsSomeAnd o (λ table. AllByRecursion CanBeHeld (values_of table row))) (definition row k) (all_has (HasHeldValues (map (λ (t : StoredTable). t.table) tables)) rows is.held row (named row k).0);
      });
      row_order = ascending_filter row_before (λ (row : Row). bytes_eq row.name.table s.table.name) rows is.are_rows.row_order;
      few = is.are_rows.few_rows s.table.name;
      cells_are =
          subst (λ xs. IsPermutation xs (map with_key (filter (is_in (sql.Int s.id)) (cells db)))) (ap (map with_key) cells_here ∙ keyed)
          (IsPermutation-map with_key _ _ (IsPermutation-filter (is_in (sql.Int s.id)) _ _ is.image.cells_are));
    }
