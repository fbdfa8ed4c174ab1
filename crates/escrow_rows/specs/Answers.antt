-- Believed: what each call reads from an image.
use Rattle.std.specs.Prelude.{◌≡◌, ℕ, ℤ, Option, option_map, List, map, length, IsPermutation}
use Rattle.std.specs.Ordering.{is_lt, int_cmp}
use Rattle.sqlite.specs.Effect.{Database}
use Rattle.escrow_num.specs.Ascending.{IsAscending}
use Rattle.escrow_num.specs.declared.row.Row.{Row}
use Rattle.escrow_num.specs.declared.value.Value.{Value}
use Rattle.escrow_schema.specs.Fit.{values_of}
use Rattle.escrow_schema.specs.Print.{canonical}
use Rattle.escrow_schema.specs.declared.stored.StoredTable.{StoredTable}
use Rattle.escrow_rows.specs.declared.listed.ListedTable.{ListedTable}
use Rattle.escrow_rows.specs.Image.{IsImage, AreTables, AreRows}
use Rattle.escrow_schema.specs.Rows.{row_named, rows_of}
pub use Rattle.escrow_cells.specs.Calls.{IsUsable, OnlyReads, was_done}
use Rattle.escrow_rows.specs.Changes.{Stands, name_in}

-- an answer is this function of the rows. This holds for any tables and rows whose image the database is, if the given
-- table is one of these tables
abbrev pub Tells : {A : Type 0} → StoredTable → (List Row → A) → Database → A → Type 0
Tells s of db answer =
    (tables : List StoredTable) (rows : List Row) → AreTables tables → AreRows tables rows → Stands tables s
    → IsImage tables rows db → answer ≡ of rows

-- the amounts of the row of a key in a table, if it is there
abbrev pub TellsAmounts : StoredTable → Value → Database → Option (List ℤ) → Type 0
TellsAmounts s key = Tells s (λ rows. option_map (λ row. row.amounts) (row_named rows (name_in s key)))

-- the values of the row, in column order
abbrev pub TellsValues : StoredTable → Value → Database → Option (List Value) → Type 0
TellsValues s key = Tells s (λ rows. option_map (values_of s.table) (row_named rows (name_in s key)))

-- the row itself, if it is there
abbrev pub TellsRow : StoredTable → Value → Database → Option Row → Type 0
TellsRow s key = Tells s (λ rows. row_named rows (name_in s key))

-- the rows of a table, in order of key
abbrev pub TellsRows : StoredTable → Database → List Row → Type 0
TellsRows s = Tells s (λ rows. rows_of rows s.table.name)

-- the values of each row of a table, in order of key
abbrev pub TellsAllValues : StoredTable → Database → List (List Value) → Type 0
TellsAllValues s = Tells s (λ rows. map (values_of s.table) (rows_of rows s.table.name))

-- how many rows a table has
abbrev pub TellsCount : StoredTable → Database → ℕ → Type 0
TellsCount s = Tells s (λ rows. length (rows_of rows s.table.name))

-- a table as TAB lists it
abbrev pub listing : StoredTable → ListedTable
listing s = record { id = s.id; name = s.table.name; text = canonical s.table }

-- the tables as TAB lists them, in order of their numbers
pub record TellsTables (db : Database) (answer : List ListedTable) : Type 0 where
  pub listed : (tables : List StoredTable) (rows : List Row) → IsImage tables rows db
      → IsPermutation (map listing tables) answer
  pub in_order : (tables : List StoredTable) (rows : List Row) → AreTables tables → IsImage tables rows db
      → IsAscending (λ a b. is_lt (int_cmp a.id b.id)) answer
