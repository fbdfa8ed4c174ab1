-- The tables that own the cells, as the cells are read.
use Rattle.std.proofs.Common.{◌≡◌, ℤ, true, List, [], ◌∷◌, ◌++◌, refl, subst, IsTrue}
use Rattle.std.specs.Prelude.{◌↔◌}
use Rattle.std.specs.Borrow.{Bor}
use Rattle.std.specs.List.{AllByRecursion}
use Rattle.std.proofs.lemmas.List.Sorted.{IsPermutation-sym}
use Rattle.sqlite_value.specs.declared.value.Value.TheVariants.{Int}
use Rattle.sqlite_value.specs.Order.{Row as SqlRow, column}
use Rattle.sqlite_trees.proofs.ListLemmas.{all-append, all-map, all-permutation, all_from_map}
use Rattle.sqlite.specs.Effect.{Database}
use Rattle.escrow_cells.specs.Read.{AreTablesOfCells, Takes}
use Rattle.escrow_cells.specs.Store.{cells}
use Rattle.escrow_schema.specs.declared.stored.StoredTable.{StoredTable}
use Rattle.escrow_recover.specs.declared.cells.Owners.{Owners}
use Rattle.escrow_recover.specs.Inside.{AreOfTables, IsNumberOf, is_number_of}

-- a row names one of the tables
abbrev pub Names : List StoredTable → SqlRow → Type 0
Names tables row = IsNumberOf tables (column row 0)

-- what is known of the rows taken so far
abbrev pub HasLooked : Owners → Owners → List SqlRow → Type 0
HasLooked first owners rows = (owners.tables ≡ first.tables) × (IsTrue first.known → (IsTrue owners.known ↔ AllByRecursion (Names first.tables.now) rows))

all_before : {A : Type 0} (P : A → Type 0) (xs ys : List A) → AllByRecursion P (xs ++ ys) → AllByRecursion P xs × AllByRecursion P ys
all_before P [] ys h = (tt, h)
all_before P (x ∷ xs) ys h = let rest = all_before P xs ys h.1 in ((h.0, rest.0), rest.1)

-- one more row, of one of the tables
pub still_known : (first owners : Owners) (rows : List SqlRow) (row : SqlRow) (id : ℤ) → column row 0 ≡ Int id → is_number_of owners.tables.now id ≡ true
    → HasLooked first owners rows → HasLooked first owners (rows ++ row ∷ [])
still_known first owners rows row id is found so_far =
    let here : Names first.tables.now row = (id, is, subst (λ (t : Bor (List StoredTable)). is_number_of t.now id ≡ true) so_far.0 found) in (
      so_far.0,
      λ begun.
          let test = so_far.1 begun in
          (λ known. all-append (Names first.tables.now) rows (row ∷ []) (test.0 known) (here, tt), λ all. test.1 (all_before (Names first.tables.now) rows (row ∷ []) all).0),
    )

-- all rows are taken: either each cell belongs to one of the tables, or some cell does not
pub all_known : (db : Database) (tables : Bor (List StoredTable)) (last : Owners) → Takes HasLooked (AreTablesOfCells (cells db)) (record { tables = tables; known = true }) last
    → IsTrue last.known ↔ AreOfTables tables.now db
all_known db tables last takes =
    let first : Owners = record { tables = tables; known = true } in
    let taken = takes first [] (refl, λ begun. (λ known. tt, λ all. refl)) in
    let test = taken.2.1 refl in (
      λ known. all_from_map (Names tables.now) (λ c. column c 0 ∷ []) (cells db) (all-permutation (Names tables.now) taken.0 _ (IsPermutation-sym _ taken.0 taken.1) (test.0 known)),
      λ all. test.1 (all-permutation (Names tables.now) _ taken.0 taken.1 (all-map (Names tables.now) (λ c. column c 0 ∷ []) (cells db) all)),
    )
