-- The values of all rows of a table.
use Rattle.std.proofs.Common.{◌≡◌, Bool, false, inl, inr, Some, List, [], ◌++◌, append-nil, map, filter, flat_map, length, sym, ◌∙◌, subst, IsPermutation}
use Rattle.std.specs.Prelude.{bytes_eq}
use Rattle.std.specs.List.{AllByRecursion}
use Rattle.std.proofs.lemmas.List.Sorted.{IsPermutation-map, IsPermutation-trans}
use Rattle.sqlite_value.specs.declared.value.Value.{Value as Sql}
use Rattle.sqlite_value.specs.declared.value.Value.TheVariants as sql
use Rattle.sqlite_value.specs.Order.{Row as SqlRow}
use Rattle.sqlite_trees.proofs.ListLemmas.{all-map, all_weaker, flat_map-map, map-map, IsPermutation-filter}
use Rattle.sqlite_keyed.proofs.SortLemmas.{sorted_unique}
use Rattle.sqlite.specs.Effect.{Database}
use Rattle.escrow_num.specs.declared.row.Row.{Row}
use Rattle.escrow_num.specs.declared.value.Value.{Value}
use Rattle.escrow_num.specs.Ascending.{IsAscending}
use Rattle.escrow_num.proofs.Ascending.{ascending_filter}
use Rattle.escrow_schema.specs.declared.table.TableDef.{TableDef}
use Rattle.escrow_schema.specs.Fit.{IsRowOf, values_of}
use Rattle.escrow_schema.proofs.BackLemmas.{length-values_of}
use Rattle.escrow_cells.specs.Read.{AreOfTable}
use Rattle.escrow_cells.specs.Step.{is_in}
use Rattle.escrow_cells.specs.Store.{IsStore, cells}
use Rattle.escrow_rows.specs.declared.keyed_row.KeyedRow.{KeyedRow}
use Rattle.escrow_schema.specs.declared.stored.StoredTable.{StoredTable}
use Rattle.escrow_rows.specs.Answers.{TellsAllValues}
use Rattle.escrow_rows.specs.Changes.{Stands}
use Rattle.escrow_rows.specs.Image.{cells_of, AreTables, AreRows, IsImage}
use Rattle.escrow_rows.specs.Placed.{keyed_cells}
use Rattle.escrow_rows.specs.Reading.{HaveValues, ReadsRows, keyed_row, row_cells}
use Rattle.escrow_schema.specs.Rows.{row_before, rows_of}
use Rattle.escrow_rows.proofs.KeyedCells.{cell_cmp, cell_cmp_total, rows_rise, with_key}
use Rattle.escrow_rows.proofs.TableRead.{keys_rise, own_cells, own_rows}

-- the cells of a table's rows are determined by their keys and values
pub cells_same : (table : TableDef) (rows : List Row) → flat_map (keyed_cells table) rows ≡ flat_map (row_cells 0) (map (keyed_row table) rows)
cells_same table rows = sym (flat_map-map (row_cells 0) (keyed_row table) rows)

-- each row has one value for each column
pub as_many : (table : TableDef) (rows : List Row) → AllByRecursion (IsRowOf table) rows → HaveValues (length table.columns) (map (keyed_row table) rows)
as_many table rows fit =
    all-map (λ (row : KeyedRow). length row.values ≡ length table.columns) (keyed_row table) rows
    (all_weaker (IsRowOf table) (λ row. length (values_of table row) ≡ length table.columns) (λ row is. length-values_of table row is) rows fit)

-- if some cells are those of a table's rows in any order, then in order they are those of the rows in order of key
pub cells_in_order : (table : TableDef) (id : Sql) (rows : List Row) (all answer : List SqlRow) → AllByRecursion (λ row. row.name.table ≡ table.name) rows → IsAscending row_before rows
    → IsPermutation (flat_map (keyed_cells table) rows) (map with_key (filter (is_in id) all)) → AreOfTable id all answer → answer ≡ flat_map (keyed_cells table) rows
cells_in_order table id rows all answer named up same read =
    sorted_unique cell_cmp cell_cmp_total (flat_map (keyed_cells table) rows) answer (rows_rise table rows (keys_rise table rows named up))
    (IsPermutation-trans (flat_map (keyed_cells table) rows) (map with_key (filter (is_in id) all)) answer same read.same_cells) read.in_order

-- the cells of a table of an image, in order, are those of its rows
pub table_read : (tables : List StoredTable) (rows : List Row) (s : StoredTable) (db : Database) (answer : List SqlRow) → AreTables tables → AreRows tables rows → Stands tables s
    → IsPermutation (flat_map (cells_of tables) rows) (cells db) → AreOfTable (sql.Int s.id) (cells db) answer
    → answer ≡ flat_map (keyed_cells s.table) (rows_of rows s.table.name)
table_read tables rows s db answer are of stands coded read =
    let mine = rows_of rows s.table.name in
    let test = is_in (sql.Int s.id) in
    let held = IsPermutation-map with_key (filter test (flat_map (cells_of tables) rows)) (filter test (cells db)) (IsPermutation-filter test (flat_map (cells_of tables) rows) (cells db) coded) in
    cells_in_order s.table (sql.Int s.id) mine (cells db) answer
    (all_weaker _ (λ row. row.name.table ≡ s.table.name) (λ row h. h.0) mine (own_rows tables rows s of stands)) (ascending_filter row_before (λ row. bytes_eq row.name.table s.table.name) rows of.row_order)
    (subst (λ (cs : List SqlRow). IsPermutation cs (map with_key (filter test (cells db)))) (own_cells tables rows s are of stands) held) read

-- a taker that is given these cells has taken the table's rows
pub rows_taken : {T : Type 0} (HasTaken : T → T → List KeyedRow → Type 0) (is_enough : T → Bool) (s : StoredTable) (db : Database) (fresh last : T) → ReadsRows HasTaken is_enough s db fresh (Some last) → (tables : List StoredTable) (rows : List Row)
    → AreTables tables → AreRows tables rows → Stands tables s → IsImage tables rows db
    → (begun : T) (before : List KeyedRow) → HasTaken begun fresh before → HasTaken begun last (before ++ map (keyed_row s.table) (rows_of rows s.table.name))
rows_taken HasTaken is_enough s db fresh last read tables rows are of stands image begun before has =
    let mine = rows_of rows s.table.name in
    let fit = all_weaker _ (IsRowOf s.table) (λ row own. own.1) mine (own_rows tables rows s of stands) in
    let rows_are = map (keyed_row s.table) mine in
    let many = as_many s.table mine fit in
    let cells_are = table_read tables rows s db read.0 are of stands image.cells_are read.1 ∙ cells_same s.table mine in
    elim read.2 [
      | inl all ↦ subst (λ (taken : List KeyedRow). HasTaken begun last (before ++ taken)) (sym (all.only rows_are many cells_are)) (all.taken begun before has)
      | inr enough ↦ enough.1 rows_are [] many (sym cells_are ∙ sym (append-nil read.0)) begun before has
    ]

-- the values that were taken are those of the table's rows
pub all_told : (s : StoredTable) (db : Database) (fresh values : List (List Value)) → fresh ≡ []
    → (IsStore db → ReadsRows (λ (_ rows : List (List Value)) (taken : List KeyedRow). rows ≡ map (λ row. row.values) taken) (λ _. false) s db fresh (Some values)) → TellsAllValues s db values
all_told s db fresh values none read = λ tables rows are of stands image.
    let HasTaken : List (List Value) → List (List Value) → List KeyedRow → Type 0 = λ _ rows taken. rows ≡ map (λ row. row.values) taken in
    rows_taken HasTaken (λ _. false) s db fresh values (read image.store) tables rows are of stands image [] [] none ∙ map-map (λ (row : KeyedRow). row.values) (keyed_row s.table) (rows_of rows s.table.name)
