-- Believed: what calls read from a store.
use Rattle.std.specs.Prelude.{◌≡◌, false, List, [], ◌∷◌, ◌++◌, map, filter, ◌&&◌, IsPermutation, IsSorted}
use Rattle.std.specs.Ordering.{on, then_cmp}
use Rattle.sqlite_value.specs.declared.value.Value.{Value}
use Rattle.sqlite_value.specs.Order.{Row, column, value_cmp}
use Rattle.sqlite_trees.specs.declared.store.Store.{Ghosts}
use Rattle.sqlite.specs.Held.{Held, state}
use Rattle.escrow_cells.specs.Calls.{OnlyReads}
use Rattle.escrow_cells.specs.Step.{same, is_in, is_of}

-- the cells of the row of a key, each with its place and its value, in order of place
pub record AreOfRow (table key : Value) (cells : List Row) (answer : List Row) : Type 0 where
  pub same_cells : IsPermutation (map (λ c. column c 2 ∷ column c 3 ∷ []) (filter (is_of table key) cells)) answer
  pub in_order : IsSorted (on (λ r. column r 0) value_cmp) answer

-- the cells of a table, each with its key, its place and its value, in order of key and place
pub record AreOfTable (table : Value) (cells : List Row) (answer : List Row) : Type 0 where
  pub same_cells : IsPermutation
      (map (λ c. column c 1 ∷ column c 2 ∷ column c 3 ∷ []) (filter (is_in table) cells)) answer
  pub in_order : IsSorted (then_cmp (on (λ r. column r 0) value_cmp) (on (λ r. column r 1) value_cmp)) answer

-- the keys of a table's cells at one place
pub record AreKeys (table place : Value) (cells : List Row) (answer : List Row) : Type 0 where
  pub same_keys : IsPermutation
      (map (λ c. column c 1 ∷ []) (filter (λ c. is_in table c && same (column c 2) place) cells)) answer

-- the table of each cell, in any order
abbrev pub AreTablesOfCells : List Row → List Row → Type 0
AreTablesOfCells cells = IsPermutation (map (λ c. column c 0 ∷ []) cells)

-- the rows of TAB, in order of ID
pub record AreTabs (tabs : List Row) (answer : List Row) : Type 0 where
  pub same_tabs : IsPermutation tabs answer
  pub in_order : IsSorted (on (λ r. column r 0) value_cmp) answer

-- a call that only reads leaves the connection outside a transaction, and its store as it was
pub record LeavesIdle {S : Type 0} (g : Ghosts S) (old new : Held S) : Type 0 where
  pub outside : new.in_transaction ≡ false
  pub only_reads : OnlyReads (state g old) (state g new)

-- if a sink has taken some rows since it began, it has then also taken those of an answer
abbrev pub Takes : {K : Type 0} → (K → K → List Row → Type 0) → (List Row → Type 0) → K → K → Type 0
Takes {K} HasTaken IsAnswer old new =
    (first : K) (before : List Row) → HasTaken first old before → (rows : List Row) × IsAnswer rows
    × HasTaken first new (before ++ rows)
