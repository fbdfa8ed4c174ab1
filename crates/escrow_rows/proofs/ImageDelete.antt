-- DELETE: the image without the row of a key.
use Rattle.std.proofs.Common.{◌≡◌, ℤ, true, not, List, [], ◌∷◌, filter, flat_map, ap}
use Rattle.sqlite_value.specs.declared.value.Value.TheVariants as sql
use Rattle.sqlite_trees.proofs.ListLemmas.{all_weaker, IsPermutation-filter}
use Rattle.sqlite.specs.Effect.{Database}
use Rattle.escrow_num.specs.declared.row.Row.{Row}
use Rattle.escrow_num.specs.declared.value.Value.{Value}
use Rattle.escrow_num.specs.Order.{same_row}
use Rattle.escrow_cells.specs.declared.datum.Datum.{Datum}
use Rattle.escrow_cells.specs.declared.step.Step.TheVariants as step
use Rattle.escrow_cells.specs.Step.{DoesFinding, finds, kept, is_of}
use Rattle.escrow_cells.specs.Store.{cells}
use Rattle.escrow_schema.specs.declared.stored.StoredTable.{StoredTable}
use Rattle.escrow_rows.specs.Image.{stored, cells_of, AreTables, AreRows, IsOfTables}
use Rattle.escrow_rows.specs.Changes.{Stands, Deletes, is_there, name_in}
use Rattle.escrow_schema.specs.Rows.{without_row}
use Rattle.escrow_rows.proofs.Cells.{filter_pieces, is_of_row, stands_has}
use Rattle.escrow_rows.proofs.Finding.{delete_told, told_as}
use Rattle.escrow_rows.proofs.Images.{rows_after}

-- the cells without those of a row are those of the rows without it
cells_without : (tables : List StoredTable) (rows : List Row) (s : StoredTable) (key : Value) → AreTables tables → AreRows tables rows → Stands tables s
    → filter (λ cell. not (is_of (sql.Int s.id) (stored key) cell)) (flat_map (cells_of tables) rows) ≡ flat_map (cells_of tables) (without_row (name_in s key) rows)
cells_without tables rows s key are of stands =
    filter_pieces (cells_of tables) (λ cell. not (is_of (sql.Int s.id) (stored key) cell)) (λ row. not (same_row row.name (name_in s key))) rows
    (all_weaker (IsOfTables tables) _ (λ row has. all_weaker _ _ (λ cell e. ap not e) (cells_of tables row) (is_of_row tables s key row are (stands_has tables s stands) has))
    rows of.of_tables)

-- the step of DELETE removes the row that it finds
pub deletes : (s : StoredTable) (key : Value) (id : ℤ) (d : Datum) → id ≡ s.id → kept d ≡ stored key → (old new : Database) → DoesFinding (step.DeleteRow id d) [] old new → Deletes s key old new
deletes s key id d number is old new finding =
    rows_after (step.DeleteRow id d ∷ []) s (is_there s key) (without_row (name_in s key)) old new finding.does
    (told_as s (is_there s key) old (finds (step.DeleteRow id d) (cells old)) true finding.found (delete_told s key id d number is old)) (λ tables rows are of stands c coded. record {
      tabs_are = coded.tabs_are;
      cells_are = rw (number, is, ← cells_without tables rows s key are of stands) (IsPermutation-filter _ _ _ coded.cells_are);
    })
