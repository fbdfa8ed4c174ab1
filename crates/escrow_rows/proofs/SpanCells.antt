-- The cells of the rows of a table in a span of columns.
use Rattle.std.proofs.Common.{◌≡◌, ℕ, pos, ◌+◌, ◌≤◌, Bool, List, [], ◌∷◌, ◌++◌, map, filter, flat_map, length, take, drop, refl, sym, ap, ap₂, ◌∙◌, subst, arith, IsPermutation}
use Rattle.std.specs.List.{AllByRecursion}
use Rattle.std.specs.Prelude.{bytes_eq}
use Rattle.std.proofs.lemmas.List.{length-drop, length-take, take_all}
use Rattle.std.proofs.lemmas.List.Elements.{filter-append}
use Rattle.std.proofs.lemmas.List.Sorted.{IsPermutation-map, IsPermutation-trans}
use Rattle.sqlite_value.specs.declared.value.Value.TheVariants as sql
use Rattle.sqlite_value.specs.Order.{Row as SqlRow, column}
use Rattle.sqlite_trees.proofs.ListLemmas.{all-map, all_weaker, ascending-filter, filter-map, IsPermutation-filter}
use Rattle.sqlite_keyed.proofs.SortLemmas.{sorted_unique}
use Rattle.sqlite.specs.Effect.{Database}
use Rattle.escrow_num.specs.declared.row.Row.{Row}
use Rattle.escrow_num.specs.declared.value.Value.{Value}
use Rattle.escrow_num.proofs.Ascending.{ascending_filter}
use Rattle.escrow_schema.specs.declared.table.TableDef.{TableDef}
use Rattle.escrow_schema.specs.Fit.{IsRowOf, values_of}
use Rattle.escrow_schema.proofs.BackLemmas.{length-values_of}
use Rattle.escrow_schema.specs.Rows.{row_before, rows_of}
use Rattle.escrow_schema.specs.declared.stored.StoredTable.{StoredTable}
use Rattle.escrow_cells.specs.Span.{AreOfSpans, is_within}
use Rattle.escrow_cells.specs.Step.{is_in}
use Rattle.escrow_cells.specs.Store.{cells}
use Rattle.escrow_rows.specs.declared.keyed_row.KeyedRow.{KeyedRow}
use Rattle.escrow_rows.specs.Changes.{Stands}
use Rattle.escrow_rows.specs.Image.{stored, cells_of, AreRows, AreTables}
use Rattle.escrow_rows.specs.Placed.{keyed, keyed_cells, placed}
use Rattle.escrow_rows.specs.Reading.{HaveValues, keyed_span, row_cells}
use Rattle.escrow_rows.proofs.KeyedCells.{Below, cell_cmp, cell_cmp_total, rows_rise, with_key}
use Rattle.escrow_rows.proofs.Spans.{span_placed}
use Rattle.escrow_rows.proofs.TableRead.{keys_rise, own_cells, own_rows}

-- a row has a value for each column of the span
pub span_values : (tables : List StoredTable) (rows : List Row) (s : StoredTable) (start many : ℕ) → AreRows tables rows → Stands tables s → start + many ≤ length s.table.columns
    → HaveValues many (map (keyed_span start many s.table) (rows_of rows s.table.name))
span_values tables rows s start many of stands within =
    all-map (λ (row : KeyedRow). length row.values ≡ many) (keyed_span start many s.table) (rows_of rows s.table.name)
    (all_weaker _ (λ row. length (take many (drop start (values_of s.table row))) ≡ many)
    (λ row own.
    let values = values_of s.table row in
    omega (arith, within, length-values_of s.table row own.1, length-take many (drop start values), length-drop start values))
    (rows_of rows s.table.name) (own_rows tables rows s of stands))

module _ (start many : ℕ) where
  -- to SQLite a cell with a key stands in the span
  abbrev pub is_inside : SqlRow → Bool
  is_inside cell = is_within (pos (start + 1)) (pos (start + many)) (column cell 1)

  -- the cells of a row in the span
  row_span : (table : TableDef) (row : Row) → filter is_inside (keyed_cells table row) ≡ row_cells start (keyed_span start many table row)
  row_span table row =
      let with_its_key : SqlRow → SqlRow = λ cell. stored row.name.key ∷ cell in
      filter-map is_inside with_its_key (placed 1 (values_of table row)) ∙ ap (map with_its_key) (span_placed start many (values_of table row))

  rows_span : (table : TableDef) (rows : List Row) → filter is_inside (flat_map (keyed_cells table) rows) ≡ flat_map (row_cells start) (map (keyed_span start many table) rows)
  rows_span table [] = refl
  rows_span table (row ∷ rows) = filter-append is_inside (keyed_cells table row) (flat_map (keyed_cells table) rows) ∙ ap₂ (λ (xs ys : List SqlRow). xs ++ ys) (row_span table row) (rows_span table rows)

  -- the cells that are answered of a table of an image are those of its rows
  pub spans_answer : (tables : List StoredTable) (rows : List Row) (s : StoredTable) (db : Database) (answer : List SqlRow) → AreTables tables → AreRows tables rows → Stands tables s
      → IsPermutation (flat_map (cells_of tables) rows) (cells db) → AreOfSpans (pos (start + 1)) (pos (start + many)) (sql.Int s.id) (cells db) answer
      → answer ≡ flat_map (row_cells start) (map (keyed_span start many s.table) (rows_of rows s.table.name))
  spans_answer tables rows s db answer are of stands coded read =
      let mine = rows_of rows s.table.name in
      let test = is_in (sql.Int s.id) in
      let all = flat_map (keyed_cells s.table) mine in
      let held = IsPermutation-map with_key (filter test (flat_map (cells_of tables) rows)) (filter test (cells db)) (IsPermutation-filter test (flat_map (cells_of tables) rows) (cells db) coded) in
      let own : IsPermutation all (map with_key (filter test (cells db))) = subst (λ (cs : List SqlRow). IsPermutation cs (map with_key (filter test (cells db)))) (own_cells tables rows s are of stands) held in
      let inside = IsPermutation-filter is_inside all (map with_key (filter test (cells db))) own in
      let rise = rows_rise s.table mine (keys_rise s.table mine (all_weaker _ (λ row. row.name.table ≡ s.table.name) (λ row h. h.0) mine (own_rows tables rows s of stands))
      (ascending_filter row_before (λ row. bytes_eq row.name.table s.table.name) rows of.row_order)) in
      sorted_unique cell_cmp cell_cmp_total (filter is_inside all) answer (ascending-filter Below is_inside all rise)
      (IsPermutation-trans (filter is_inside all) (filter is_inside (map with_key (filter test (cells db)))) answer inside read.same_cells) read.in_order
      ∙ rows_span s.table mine

-- a span of all columns has all values
pub whole_span : (tables : List StoredTable) (rows : List Row) (s : StoredTable) → AreRows tables rows → Stands tables s
    → flat_map (keyed_cells s.table) (rows_of rows s.table.name) ≡ flat_map (row_cells 0) (map (keyed_span 0 (length s.table.columns) s.table) (rows_of rows s.table.name))
whole_span tables rows s of stands = each (rows_of rows s.table.name) (own_rows tables rows s of stands)
  where
    each : (mine : List Row) → AllByRecursion (λ row. (row.name.table ≡ s.table.name) × IsRowOf s.table row × (map with_key (cells_of tables row) ≡ keyed_cells s.table row)) mine
        → flat_map (keyed_cells s.table) mine ≡ flat_map (row_cells 0) (map (keyed_span 0 (length s.table.columns) s.table) mine)
    each [] own = refl
    each (row ∷ mine) own =
        let values = values_of s.table row in
        let all : take (length s.table.columns) values ≡ values = take_all (length s.table.columns) values (omega (arith, length-values_of s.table row own.0.1)) in
        ap₂ (λ (vs : List Value) (cells : List SqlRow). keyed row.name.key 1 vs ++ cells) (sym all) (each mine own.1)
