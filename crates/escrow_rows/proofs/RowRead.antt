-- The cells of a key in an image are those of the row with its name.
use Rattle.std.proofs.Common.{◌≡◌, Some, List, map, filter, flat_map, ap, ◌∙◌, subst, IsPermutation}
use Rattle.std.specs.Prelude.{option_to_list}
use Rattle.std.proofs.lemmas.List.Sorted.{IsPermutation-map}
use Rattle.sqlite_value.specs.declared.value.Value.TheVariants as sql
use Rattle.sqlite_value.specs.Order.{Row as SqlRow}
use Rattle.sqlite_trees.proofs.ListLemmas.{all_weaker, IsPermutation-filter}
use Rattle.sqlite.specs.Effect.{Database}
use Rattle.escrow_num.specs.declared.row.Row.{Row}
use Rattle.escrow_num.specs.declared.value.Value.{Value}
use Rattle.escrow_num.specs.Order.{same_row}
use Rattle.escrow_num.proofs.Items.{all_has, find_has}
use Rattle.escrow_num.proofs.Orders.{row_same}
use Rattle.escrow_schema.specs.Fit.{IsRowOf}
use Rattle.escrow_cells.specs.Step.{is_of}
use Rattle.escrow_cells.specs.Store.{cells}
use Rattle.escrow_schema.specs.declared.stored.StoredTable.{StoredTable}
use Rattle.escrow_schema.specs.Rows.{row_named}
use Rattle.escrow_rows.specs.Image.{stored, cells_in, cells_of, AreTables, AreRows, IsOfTables}
use Rattle.escrow_rows.specs.Changes.{Stands, name_in}
use Rattle.escrow_rows.proofs.Cells.{filter_pieces, is_of_row, row_of_stored, stands_has}
use Rattle.escrow_rows.proofs.OneRow.{rows_named}
use Rattle.escrow_rows.proofs.PlacedCells.{in_place}

-- among the cells of rows, those of a key in a table are the cells of the row with that name
named_cells : (tables : List StoredTable) (rows : List Row) (s : StoredTable) (key : Value) → AreTables tables → AreRows tables rows → Stands tables s
    → filter (is_of (sql.Int s.id) (stored key)) (flat_map (cells_of tables) rows) ≡ flat_map (cells_of tables) (option_to_list (row_named rows (name_in s key)))
named_cells tables rows s key are of stands =
    filter_pieces (cells_of tables) (is_of (sql.Int s.id) (stored key)) (λ row. same_row row.name (name_in s key)) rows
    (all_weaker (IsOfTables tables) _ (λ row has. is_of_row tables s key row are (stands_has tables s stands) has) rows of.of_tables)
    ∙ ap (flat_map (cells_of tables)) (rows_named rows (name_in s key) of.row_order)

-- the cells of a key, each by its place and value, are those of the row with a name
pub placed_named : (tables : List StoredTable) (rows : List Row) (s : StoredTable) (key : Value) (db : Database)
    → AreTables tables → AreRows tables rows → Stands tables s → IsPermutation (flat_map (cells_of tables) rows) (cells db)
    → IsPermutation (map in_place (flat_map (cells_of tables) (option_to_list (row_named rows (name_in s key))))) (map in_place (filter (is_of (sql.Int s.id) (stored key)) (cells db)))
placed_named tables rows s key db are of stands coded =
    let mine = is_of (sql.Int s.id) (stored key) in
    subst (λ (cs : List SqlRow). IsPermutation (map in_place cs) (map in_place (filter mine (cells db)))) (named_cells tables rows s key are of stands)
    (IsPermutation-map in_place (filter mine (flat_map (cells_of tables) rows)) (filter mine (cells db)) (IsPermutation-filter mine (flat_map (cells_of tables) rows) (cells db) coded))

-- a row that names an existing table belongs to that table, with its cells
pub row_there : (tables : List StoredTable) (rows : List Row) (s : StoredTable) (key : Value) (row : Row) → AreRows tables rows → Stands tables s → row_named rows (name_in s key) ≡ Some row
    → IsRowOf s.table row × (cells_of tables row ≡ cells_in s row)
row_there tables rows s key row of stands e =
    let found = find_has (λ (r : Row). same_row r.name (name_in s key)) rows row e in
    row_of_stored tables s row stands (all_has (IsOfTables tables) rows of.of_tables row found.0) (ap (λ n. n.table) (row_same row.name (name_in s key) found.1))
