-- The cells of a table of an image determine its rows.
use Rattle.std.proofs.Common.{◌≡◌, true, IsTrue, List, [], ◌∷◌, map, filter, flat_map, Ordering, Less, Equal, is_lt, sym, ap, ◌∙◌, refl}
use Rattle.std.specs.Prelude.{bytes_eq}
use Rattle.std.specs.Cmp.Lexicographic.{slice_cmp}
use Rattle.std.specs.List.{AllByRecursion}
use Rattle.std.specs.Ordering.{nat_cmp, ordering_then}
use Rattle.std.proofs.lemmas.Cmp.{nat_list_cmp_total, tied_itself}
use Rattle.sqlite_value.specs.declared.value.Value.TheVariants as sql
use Rattle.sqlite_trees.proofs.ListLemmas.{all_both, all_weaker, map-flat_map}
use Rattle.escrow_num.specs.declared.row.Row.{Row}
use Rattle.escrow_num.specs.Ascending.{IsAscending}
use Rattle.escrow_num.specs.Order.{value_cmp}
use Rattle.escrow_num.proofs.Items.{all_has, has_all, has_filter}
use Rattle.escrow_num.proofs.Orders.{name_same}
use Rattle.escrow_schema.specs.declared.table.TableDef.{TableDef}
use Rattle.escrow_schema.specs.Fit.{IsRowOf, values_of}
use Rattle.escrow_cells.specs.Step.{is_in}
use Rattle.escrow_schema.specs.declared.stored.StoredTable.{StoredTable}
use Rattle.escrow_rows.specs.Changes.{Stands}
use Rattle.escrow_rows.specs.Image.{cells_of, AreTables, AreRows, IsOfTables}
use Rattle.escrow_rows.specs.Placed.{keyed_cells}
use Rattle.escrow_schema.specs.Rows.{row_before, rows_of}
use Rattle.escrow_rows.proofs.Cells.{filter_pieces, is_in_row, row_of_stored, stands_has}
use Rattle.escrow_rows.proofs.KeyedCells.{cells_keyed, KeysRise, with_key}

-- two functions with the same pieces for each item make the same list
pub same_pieces : {A B : Type 0} (f g : A → List B) (xs : List A) → AllByRecursion (λ x. f x ≡ g x) xs → flat_map f xs ≡ flat_map g xs
same_pieces f g [] h = refl
same_pieces f g (x ∷ xs) h = rw (h.0, same_pieces f g xs h.1) refl

-- the rows of an existing table belong to that table, with its cells
pub own_rows : (tables : List StoredTable) (rows : List Row) (s : StoredTable) → AreRows tables rows → Stands tables s
    → AllByRecursion (λ row. (row.name.table ≡ s.table.name) × IsRowOf s.table row × (map with_key (cells_of tables row) ≡ keyed_cells s.table row)) (rows_of rows s.table.name)
own_rows tables rows s of stands =
    has_all (λ row. (row.name.table ≡ s.table.name) × IsRowOf s.table row × (map with_key (cells_of tables row) ≡ keyed_cells s.table row)) (rows_of rows s.table.name) (λ row has.
    let found = has_filter (λ (r : Row). bytes_eq r.name.table s.table.name) rows row has in
    let named = name_same row.name.table s.table.name found.1 in
    let own = row_of_stored tables s row stands (all_has (IsOfTables tables) rows of.of_tables row found.0) named in
    (named, own.0, ap (map with_key) own.1 ∙ cells_keyed s.id row.name.key 1 (values_of s.table row)))

-- among the cells of an image, those of a table are the cells of its rows
pub own_cells : (tables : List StoredTable) (rows : List Row) (s : StoredTable) → AreTables tables → AreRows tables rows → Stands tables s
    → map with_key (filter (is_in (sql.Int s.id)) (flat_map (cells_of tables) rows)) ≡ flat_map (keyed_cells s.table) (rows_of rows s.table.name)
own_cells tables rows s are of stands =
    let mine = rows_of rows s.table.name in
    let tests = all_weaker (IsOfTables tables) _ (λ row has. is_in_row tables s row are (stands_has tables s stands) has) rows of.of_tables in
    ap (map with_key) (filter_pieces (cells_of tables) (is_in (sql.Int s.id)) (λ row. bytes_eq row.name.table s.table.name) rows tests)
    ∙ map-flat_map with_key (cells_of tables) mine
    ∙ same_pieces (λ row. map with_key (cells_of tables row)) (λ row. keyed_cells s.table row) mine (all_weaker _ (λ row. map with_key (cells_of tables row) ≡ keyed_cells s.table row) (λ row own. own.2) mine (own_rows tables rows s of stands))

-- the result of `is_lt`
less : (o : Ordering) → is_lt o ≡ true → o ≡ Less
less Less e = refl
less _ e = absurd (cc)

-- of two rows of one table, the earlier one has the lower key
key_less : (a b : Row) → a.name.table ≡ b.name.table → row_before a b ≡ true → value_cmp a.name.key b.name.key ≡ Less
key_less a b same before =
    let tied : slice_cmp nat_cmp a.name.table b.name.table ≡ Equal = ap (slice_cmp nat_cmp a.name.table) (sym same) ∙ tied_itself nat_list_cmp_total a.name.table in
    less (value_cmp a.name.key b.name.key) (sym (ap (λ o. is_lt (ordering_then o (value_cmp a.name.key b.name.key))) tied) ∙ before)

-- the keys of its rows are ascending
pub keys_rise : (table : TableDef) (rows : List Row) → AllByRecursion (λ row. row.name.table ≡ table.name) rows → IsAscending row_before rows → KeysRise rows
keys_rise table [] named up = tt
keys_rise table (row ∷ rows) named up = (
  all_both (λ other. other.name.table ≡ table.name) (λ other. IsTrue (row_before row other)) (λ other. value_cmp row.name.key other.name.key ≡ Less)
      (λ other same before. key_less row other (named.0 ∙ sym same) before) rows named.1 up.0,
  keys_rise table rows named.1 up.1,
)
