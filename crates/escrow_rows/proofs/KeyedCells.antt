-- The cells of rows, each given by its key, place and value, are in ascending order.
use Rattle.std.proofs.Common.{◌≡◌, ℕ, ℤ, pos, ◌+◌, ◌<◌, ◌≤◌, List, [], ◌∷◌, ◌++◌, map, flat_map, length, Ordering, Less, refl, ap, ◌∙◌, arith}
use Rattle.std.specs.List.{AllByRecursion}
use Rattle.std.specs.Ordering.{on, then_cmp, ordering_then}
use Rattle.std.specs.Cmp.{IsTotalOrder}
use Rattle.std.proofs.lemmas.Cmp.{on_total, then_total, tied_itself}
use Rattle.std.proofs.lemmas.List.{map-append}
use Rattle.sqlite_value.specs.declared.value.Value.TheVariants as sql
use Rattle.sqlite_value.specs.Order.{Row as SqlRow, column, value_cmp}
use Rattle.sqlite_value.proofs.OrderLemmas.{value_cmp-Int, value_cmp-Text, value_cmp-apart, value_cmp_total}
use Rattle.sqlite_trees.specs.Tree.{IsAscending as Rises}
use Rattle.sqlite_trees.proofs.ListLemmas.{all-flat_map, all_weaker, ascending-append}
use Rattle.escrow_num.specs.declared.row.Row.{Row}
use Rattle.escrow_num.specs.declared.value.Value.{Value}
use Rattle.escrow_num.specs.declared.value.Value.TheVariants.{Number, Text}
use Rattle.escrow_num.specs.Order.{value_cmp as key_cmp}
use Rattle.escrow_schema.specs.declared.table.TableDef.{TableDef}
use Rattle.escrow_schema.specs.Fit.{values_of}
use Rattle.escrow_rows.specs.Image.{stored, cells_from}
use Rattle.escrow_rows.specs.Placed.{placed, keyed, keyed_cells}
use Rattle.escrow_rows.proofs.PlacedCells.{later_place, placed-push}

-- a cell, given by its key, place and value
abbrev pub with_key : SqlRow → SqlRow
with_key c = column c 1 ∷ column c 2 ∷ column c 3 ∷ []

-- the cells of values, given by their key and their places
pub cells_keyed : (id : ℤ) (key : Value) (place : ℕ) (vs : List Value) → map with_key (cells_from id key (pos place) vs) ≡ keyed key place vs
cells_keyed id key place [] = refl
cells_keyed id key place (v ∷ vs) = ap (λ cells. (stored key ∷ sql.Int (pos place) ∷ stored v ∷ []) ∷ cells) (cells_keyed id key (place + 1) vs)

-- one more value at the end
pub keyed-push : (key : Value) (place : ℕ) (vs : List Value) (v : Value) → keyed key place (vs ++ v ∷ []) ≡ keyed key place vs ++ (stored key ∷ sql.Int (pos (place + length vs)) ∷ stored v ∷ []) ∷ []
keyed-push key place vs v = ap (map (λ cell. stored key ∷ cell)) (placed-push place vs v) ∙ map-append (λ cell. stored key ∷ cell) (placed place vs) _

-- the order of cells: by key and place
abbrev pub cell_cmp : SqlRow → SqlRow → Ordering
cell_cmp = then_cmp (on (λ r. column r 0) value_cmp) (on (λ r. column r 1) value_cmp)

pub cell_cmp_total : IsTotalOrder cell_cmp
cell_cmp_total = then_total (on_total (λ (r : SqlRow). column r 0) value_cmp_total) (on_total (λ (r : SqlRow). column r 1) value_cmp_total)

-- a cell is before another
abbrev pub Below : SqlRow → SqlRow → Type 0
Below a b = cell_cmp a b ≡ Less

-- SQLite compares stored values as keys are compared
pub stored_cmp : (a b : Value) → value_cmp (stored a) (stored b) ≡ key_cmp a b
stored_cmp (Number a) (Number b) = value_cmp-Int a b
stored_cmp (Number a) (Text b) = value_cmp-apart (sql.Int a) (sql.Text b) (λ e. omega arith)
stored_cmp (Text a) (Number b) = value_cmp-apart (sql.Text a) (sql.Int b) (λ e. omega arith)
stored_cmp (Text a) (Text b) = value_cmp-Text a b

-- what holds of all cells of a key from a place on holds of the cells of these values
keyed_all : (P : SqlRow → Type 0) (key : Value) (from place : ℕ) → ((n : ℕ) (v : Value) → from ≤ n → P (stored key ∷ sql.Int (pos n) ∷ stored v ∷ [])) → (vs : List Value) → from ≤ place
    → AllByRecursion P (keyed key place vs)
keyed_all P key from place each [] h = tt
keyed_all P key from place each (v ∷ vs) h = (each place v h, keyed_all P key from (place + 1) each vs (omega arith))

-- of two cells of one key, the one at the lower place comes first
place_below : (key : Value) (m n : ℕ) (v w : Value) → m < n → Below (stored key ∷ sql.Int (pos m) ∷ stored v ∷ []) (stored key ∷ sql.Int (pos n) ∷ stored w ∷ [])
place_below key m n v w h =
    ap (λ o. ordering_then o (value_cmp (sql.Int (pos m)) (sql.Int (pos n)))) (tied_itself value_cmp_total (stored key)) ∙ value_cmp-Int (pos m) (pos n) ∙ later_place m n h

keyed_rise : (key : Value) (place : ℕ) (vs : List Value) → Rises Below (keyed key place vs)
keyed_rise key place [] = tt
keyed_rise key place (v ∷ vs) = (
  keyed_all (Below (stored key ∷ sql.Int (pos place) ∷ stored v ∷ [])) key (place + 1) (place + 1) (λ n w h. place_below key place n v w (omega arith)) vs (omega arith),
  keyed_rise key (place + 1) vs,
)

-- the keys of rows are ascending
abbrev pub KeysRise : List Row → Type 0
KeysRise = Rises (λ a b. key_cmp a.name.key b.name.key ≡ Less)

-- each cell of a row comes before those of a row with a later key
key_below : (a b : Value) (m : ℕ) (v : Value) (cells : List Value) → key_cmp a b ≡ Less → AllByRecursion (Below (stored a ∷ sql.Int (pos m) ∷ stored v ∷ [])) (keyed b 1 cells)
key_below a b m v cells h =
    keyed_all (Below (stored a ∷ sql.Int (pos m) ∷ stored v ∷ [])) b 1 1
    (λ n w k. ap (λ o. ordering_then o (value_cmp (sql.Int (pos m)) (sql.Int (pos n)))) (stored_cmp a b ∙ h)) cells (omega arith)

-- the cells of all rows are ascending
pub rows_rise : (table : TableDef) (rows : List Row) → KeysRise rows → Rises Below (flat_map (keyed_cells table) rows)
rows_rise table [] up = tt
rows_rise table (row ∷ rows) up =
    let key = row.name.key in
    ascending-append Below (keyed_cells table row) (flat_map (keyed_cells table) rows) (keyed_rise key 1 (values_of table row)) (rows_rise table rows up.1)
    (keyed_all (λ cell. AllByRecursion (Below cell) (flat_map (keyed_cells table) rows)) key 1 1
    (λ n v h. all-flat_map (Below (stored key ∷ sql.Int (pos n) ∷ stored v ∷ [])) (keyed_cells table) rows
    (all_weaker (λ (b : Row). key_cmp key b.name.key ≡ Less) (λ b. AllByRecursion (Below (stored key ∷ sql.Int (pos n) ∷ stored v ∷ [])) (keyed_cells table b)) (λ b k. key_below key b.name.key n v (values_of table b) k) rows up.0))
    (values_of table row) (omega arith))
