-- Believed: how each call that writes changes an image.
use Rattle.std.specs.Prelude.{◌≡◌, ℕ, ℤ, Bool, true, is_none, is_some, IsPermutation, not, if◌then◌else◌, Option, Some, List, ◌∷◌, map, filter, fold, bytes_eq}
use Rattle.std.specs.List.{AllByRecursion}
use Rattle.sqlite.specs.Effect.{Database}
use Rattle.escrow_num.specs.declared.row.Row.{Row}
use Rattle.escrow_num.specs.declared.value.RowName.{RowName}
use Rattle.escrow_num.specs.declared.value.Value.{Value}
use Rattle.escrow_num.specs.Order.{same_row}
use Rattle.escrow_checks.specs.declared.check.Check.{Check}
use Rattle.escrow_schema.specs.Rows.{row_named, with_row, without_row, without_rows_of, replaced, with_plain}
use Rattle.escrow_schema.specs.declared.stored.StoredTable.{StoredTable}
use Rattle.escrow_rows.specs.declared.amounts.NewAmounts.{NewAmounts}
use Rattle.escrow_rows.specs.Image.{IsImage, IsImageIn, AreTables, AreRows, stored_named}

-- a table is one of those that exist
abbrev pub Stands : List StoredTable → StoredTable → Type 0
Stands tables s = stored_named tables s.table.name ≡ Some s

-- Take any tables and rows whose image a database was, with the given table among these tables. A test was true of the
-- rows, and the database is now the image of the same tables and of these new rows
abbrev pub TurnsRows : StoredTable → (List Row → Bool) → (List Row → List Row) → Database → Database → Type 0
TurnsRows s held after old new =
    (tables : List StoredTable) (rows : List Row) → AreTables tables → AreRows tables rows → Stands tables s
    → IsImage tables rows old → (held rows ≡ true) × IsImage tables (after rows) new

-- a migration: if a database was the image of tables and rows in any format, it is now their image in the known one
abbrev pub Migrates : Database → Database → Type 0
Migrates old new =
    (number : ℤ) (tables : List StoredTable) (rows : List Row) → IsImageIn number tables rows old
    → IsImage tables rows new

-- the name of the row of a key, in a table
abbrev pub name_in : StoredTable → Value → RowName
name_in s key = record { table = s.table.name; key = key }

-- a row with amounts replaced if it has this name, otherwise unchanged
abbrev pub with_new_amounts : RowName → List (Option ℤ) → Row → Row
with_new_amounts name amounts row =
    if same_row row.name name then record row { amounts = replaced amounts row.amounts } else row

-- the rows with amounts of one of them replaced
abbrev pub with_amounts : RowName → List (Option ℤ) → List Row → List Row
with_amounts name amounts rows = map (with_new_amounts name amounts) rows

-- whether the row of a key of a table is there
abbrev pub is_there : StoredTable → Value → List Row → Bool
is_there s key rows = is_some (row_named rows (name_in s key))

-- INSERT: the row is added to the rows of its table, none of which had its key
abbrev pub Inserts : StoredTable → Row → Database → Database → Type 0
Inserts s row = TurnsRows s (λ rows. is_none (row_named rows row.name)) (with_row row)

-- UPDATE of plain columns: values of the row of a key, which was there, are replaced
abbrev pub SetsPlain : StoredTable → Value → List (Option Value) → Database → Database → Type 0
SetsPlain s key values = TurnsRows s (is_there s key) (with_plain (name_in s key) values)

-- DELETE: the row of a key, which was there, is removed
abbrev pub Deletes : StoredTable → Value → Database → Database → Type 0
Deletes s key = TurnsRows s (is_there s key) (without_row (name_in s key))

-- the rows after new amounts, one after another, each for the row of a key
abbrev pub put_all : List NewAmounts → List Row → List Row
put_all news rows = fold (λ rows new. with_amounts (name_in new.table.now new.key.now) new.amounts rows) rows news

-- COMMIT: amounts of rows are replaced
abbrev pub PutsAmounts : List NewAmounts → Database → Database → Type 0
PutsAmounts news old new =
    (tables : List StoredTable) (rows : List Row) → AreTables tables → AreRows tables rows
    → AllByRecursion (λ (n : NewAmounts). Stands tables n.table.now) news
    → IsImage tables rows old → IsImage tables (put_all news rows) new

-- CREATE TABLE: there is one more table, without rows; the tables are listed in any order
abbrev pub Creates : StoredTable → Database → Database → Type 0
Creates s old new =
    (tables after : List StoredTable) (rows : List Row) → AreTables tables → AreRows tables rows
    → IsPermutation (s ∷ tables) after → AreTables after
    → IsImage tables rows old → IsImage after rows new

-- the tables of other names
abbrev pub without_stored : List ℕ → List StoredTable → List StoredTable
without_stored name tables = filter (λ s. not (bytes_eq s.table.name name)) tables

-- DROP TABLE: a table and its rows are removed
abbrev pub Drops : StoredTable → Database → Database → Type 0
Drops s old new =
    (tables : List StoredTable) (rows : List Row) → AreTables tables → AreRows tables rows → Stands tables s
    → IsImage tables rows old → IsImage (without_stored s.table.name tables) (without_rows_of s.table.name rows) new

-- a stored table with other checks
abbrev pub with_checks : List Check → StoredTable → StoredTable
with_checks checks s = record s { table = record s.table { checks = checks } }

-- the tables, of which the one of a name has other checks
abbrev pub with_redefined : List ℕ → List Check → List StoredTable → List StoredTable
with_redefined name checks tables = map (λ s. if bytes_eq s.table.name name then with_checks checks s else s) tables

-- ALTER TABLE: a table has other checks, and keeps its place, its number and its rows
abbrev pub Redefines : StoredTable → List Check → Database → Database → Type 0
Redefines s checks old new =
    (tables : List StoredTable) (rows : List Row) → AreTables tables → AreRows tables rows → Stands tables s
    → IsImage tables rows old → IsImage (with_redefined s.table.name checks tables) rows new
