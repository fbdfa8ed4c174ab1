-- If the cells of sound rows are sorted, the rows are in order of key. No other rows have these cells, in any order.
use Rattle.std.proofs.Common.{◌≡◌, ℕ, pos, ◌<◌, false, List, [], ◌∷◌, ◌++◌, flat_map, length, refl, sym, ap, ◌∙◌, arith, Ordering, Less, Equal, Greater, is_lt, is_gt, IsTrue, IsSorted}
use Rattle.std.specs.List.{AllByRecursion}
use Rattle.std.specs.Ordering.{nat_cmp, ordering_then}
use Rattle.std.specs.Cmp.Lexicographic.{slice_cmp}
use Rattle.std.proofs.lemmas.Cmp.{nat_list_cmp_total, tied_itself}
use Rattle.sqlite_value.specs.declared.value.Value.TheVariants as sql
use Rattle.sqlite_value.specs.Order.{Row as SqlRow, value_cmp}
use Rattle.sqlite_value.proofs.OrderLemmas.{value_cmp-Int}
use Rattle.sqlite_trees.specs.Tree.{IsAscending as Rises}
use Rattle.sqlite_trees.proofs.ListLemmas.{all_weaker, all_both}
use Rattle.sqlite.specs.Effect.{Database}
use Rattle.escrow_num.specs.declared.row.Row.{Row}
use Rattle.escrow_num.specs.declared.value.Value.{Value}
use Rattle.escrow_num.specs.Ascending.{IsAscending}
use Rattle.escrow_num.specs.Order.{value_cmp as key_cmp}
use Rattle.escrow_schema.specs.declared.table.TableDef.{TableDef}
use Rattle.escrow_schema.specs.Definition.{IsTable}
use Rattle.escrow_schema.specs.Fit.{values_of}
use Rattle.escrow_schema.proofs.BackLemmas.{length-values_of}
use Rattle.escrow_schema.proofs.RuleLemmas.{rules_of}
use Rattle.escrow_cells.specs.Read.{AreOfTable}
use Rattle.escrow_cells.specs.Store.{cells}
use Rattle.escrow_schema.specs.declared.stored.StoredTable.{StoredTable}
use Rattle.escrow_rows.specs.Placed.{keyed, keyed_cells}
use Rattle.escrow_rows.specs.Image.{stored}
use Rattle.escrow_schema.specs.Rows.{row_before}
use Rattle.escrow_rows.proofs.AllValues.{cells_in_order}
use Rattle.escrow_rows.proofs.Gathering.{all_behind}
use Rattle.escrow_rows.proofs.KeyedCells.{cell_cmp, cell_cmp_total, stored_cmp}
use Rattle.escrow_cells.proofs.Rising.{AtMost, ascending_from_sorted}
use Rattle.escrow_recover.specs.Inside.{AreRowsIn, IsSoundRow}

-- a cell, given by its key, place and value
abbrev cell_row : Value → ℕ → Value → SqlRow
cell_row key place v = stored key ∷ sql.Int (pos place) ∷ stored v ∷ []

rises_behind : {A : Type 0} (R : A → A → Type 0) (xs ys : List A) → Rises R (xs ++ ys) → Rises R ys
rises_behind R [] ys h = h
rises_behind R (x ∷ xs) ys h = rises_behind R xs ys h.1

-- one cell is not above another
abbrev Upto : SqlRow → SqlRow → Type 0
Upto = AtMost cell_cmp cell_cmp_total

-- the second cell of a row is not above the cells after that row
second_cell : (key : Value) (values : List Value) (behind : List SqlRow) → 1 < length values → Rises Upto (keyed key 1 values ++ behind)
    → (v : Value) × AllByRecursion (Upto (cell_row key 2 v)) behind
second_cell key [] behind long h = absurd (omega (arith, long))
second_cell key (v ∷ []) behind long h = absurd (omega (arith, long))
second_cell key (v ∷ w ∷ more) behind long h = (w, all_behind (Upto (cell_row key 2 w)) (keyed key 3 more) behind h.1.0)

-- what holds of each cell of a row holds of its first cell
first_cell : (P : SqlRow → Type 0) (key : Value) (values : List Value) (behind : List SqlRow) → 1 < length values → AllByRecursion P (keyed key 1 values ++ behind)
    → (v : Value) × P (cell_row key 1 v)
first_cell P key [] behind long h = absurd (omega (arith, long))
first_cell P key (v ∷ more) behind long h = (v, h.0)

-- if a second cell is not above a first cell, its row has the lower key
lower : (o : Ordering) → is_gt (ordering_then o Greater) ≡ false → o ≡ Less
lower Less e = refl
lower Equal e = absurd (cc)
lower Greater e = absurd (cc)

lower_key : (a b v w : Value) → Upto (cell_row a 2 v) (cell_row b 1 w) → key_cmp a b ≡ Less
lower_key a b v w h =
    let places : value_cmp (sql.Int (pos 2)) (sql.Int (pos 1)) ≡ Greater = value_cmp-Int (pos 2) (pos 1) in
    let whole : cell_cmp (cell_row a 2 v) (cell_row b 1 w) ≡ ordering_then (key_cmp a b) Greater =
    ap (λ o. ordering_then o (value_cmp (sql.Int (pos 2)) (sql.Int (pos 1)))) (stored_cmp a b) ∙ ap (ordering_then (key_cmp a b)) places in
    lower (key_cmp a b) (sym (ap is_gt whole) ∙ h)

module _ (table : TableDef) (is_table : IsTable table) where
  -- a sound row has at least two values
  long_row : (row : Row) → IsSoundRow table row → 1 < length (values_of table row)
  long_row row sound = let rules = rules_of table is_table in let many = length-values_of table row sound.is_row in omega (arith, rules.least, many)

  keys_above : (key v : Value) (rows : List Row) → AllByRecursion (IsSoundRow table) rows → AllByRecursion (Upto (cell_row key 2 v)) (flat_map (keyed_cells table) rows)
      → AllByRecursion (λ row. key_cmp key row.name.key ≡ Less) rows
  keys_above key v [] sound h = tt
  keys_above key v (row ∷ rows) sound h =
      let first = first_cell (Upto (cell_row key 2 v)) row.name.key (values_of table row) (flat_map (keyed_cells table) rows) (long_row row sound.0) h in
      (lower_key key row.name.key v first.0 first.1, keys_above key v rows sound.1 (all_behind (Upto (cell_row key 2 v)) (keyed_cells table row) (flat_map (keyed_cells table) rows) h))

  -- of two rows of one table, the row with the lower key comes first
  before : (row other : Row) → IsSoundRow table row → IsSoundRow table other → key_cmp row.name.key other.name.key ≡ Less → IsTrue (row_before row other)
  before row other sound k less =
      let same : slice_cmp nat_cmp row.name.table other.name.table ≡ Equal =
      ap (slice_cmp nat_cmp row.name.table) (k.is_row.table_name ∙ sym sound.is_row.table_name) ∙ tied_itself nat_list_cmp_total row.name.table in
      ap (λ o. is_lt (ordering_then o (key_cmp row.name.key other.name.key))) same ∙ ap is_lt less

  rows_ascend : (rows : List Row) → AllByRecursion (IsSoundRow table) rows → Rises Upto (flat_map (keyed_cells table) rows) → IsAscending row_before rows
  rows_ascend [] sound up = tt
  rows_ascend (row ∷ rows) sound up =
      let second = second_cell row.name.key (values_of table row) (flat_map (keyed_cells table) rows) (long_row row sound.0) up in (
        all_both (IsSoundRow table) (λ other. key_cmp row.name.key other.name.key ≡ Less) (λ other. IsTrue (row_before row other)) (λ other k less. before row other sound.0 k less) rows sound.1
            (keys_above row.name.key second.0 rows sound.1 second.1),
        rows_ascend rows sound.1 (rises_behind Upto (keyed_cells table row) (flat_map (keyed_cells table) rows) up),
      )

  -- sound rows whose cells are sorted are in order of key
  pub in_order : (rows : List Row) → AllByRecursion (IsSoundRow table) rows → IsSorted cell_cmp (flat_map (keyed_cells table) rows) → IsAscending row_before rows
  in_order rows sound sorted = rows_ascend rows sound (ascending_from_sorted cell_cmp cell_cmp_total (flat_map (keyed_cells table) rows) sorted)

-- the cells of a table are those of its rows, in their order
pub answer_is : (s : StoredTable) (db : Database) (rows : List Row) (answer : List SqlRow) → AreRowsIn s rows db → AreOfTable (sql.Int s.id) (cells db) answer
    → answer ≡ flat_map (keyed_cells s.table) rows
answer_is s db rows answer are of =
    cells_in_order s.table (sql.Int s.id) rows (cells db) answer (all_weaker (IsSoundRow s.table) (λ row. row.name.table ≡ s.table.name) (λ row sound. sound.is_row.table_name) rows are.sound) are.row_order are.cells_are of
