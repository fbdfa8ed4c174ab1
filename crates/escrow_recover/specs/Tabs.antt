-- Helps: what private contracts say of rows of TAB that are verified. No contract of a public call uses it.
use Rattle.std.specs.Prelude.{◌≡◌, ℕ, ℤ, pos, ◌&&◌, Bool, true, not, Some, List, [], ◌∷◌, bytes_eq, int_le, IsTrue}
use Rattle.std.specs.List.{list_all}
use Rattle.std.specs.Cmp.Lexicographic.{slice_cmp}
use Rattle.std.specs.Ordering.{int_eq, nat_cmp, on}
use Rattle.std.specs.declared.cmp.Ordering.{Ordering}
use Rattle.sqlite_value.specs.declared.value.Value.TheVariants.{Int, Text}
use Rattle.sqlite_value.specs.Order.{Row as SqlRow}
use Rattle.escrow_sql.specs.Parser.{Asks}
use Rattle.escrow_statement.specs.declared.statement.CreateText.{CreateText}
use Rattle.escrow_statement.specs.declared.statement.Request.TheVariants as requests
use Rattle.escrow_statement.specs.declared.statement.Statement.TheVariants as statements
use Rattle.escrow_schema.specs.declared.table.TableDef.{TableDef}
use Rattle.escrow_schema.specs.Definition.{IsTable, definition_of}
use Rattle.escrow_schema.specs.declared.stored.StoredTable.{StoredTable}
use Rattle.escrow_rows.specs.Image.{tab_row}

-- a text asks for a CREATE TABLE that defines a table
abbrev pub Defines : List ℕ → TableDef → Type 0
Defines text table =
    (create : CreateText) × Asks text (requests.Statement (statements.Create create))
    × (definition_of create ≡ Some table)

-- a row with a number, a name and a text
abbrev pub tab_with : ℤ → List ℕ → List ℕ → SqlRow
tab_with id name text = Int id ∷ Text name ∷ Text text ∷ []

-- a table may be in a store: some text defines it, and its number is 1 or more
pub record CanStand (s : StoredTable) : Type 0 where
  pub defined : IsTable s.table
  pub from_one : IsTrue (int_le (pos 1) s.id)

-- a row of TAB is that of such a table
abbrev pub IsTab : SqlRow → Type 0
IsTab row = (s : StoredTable) × CanStand s × (row ≡ tab_row s)

-- whether two tables have different numbers and different names
abbrev pub tables_apart : StoredTable → StoredTable → Bool
tables_apart a b = not (int_eq a.id b.id) && not (bytes_eq a.table.name b.table.name)

-- whether no two tables have the same number or the same name
abbrev pub are_apart : List StoredTable → Bool
are_apart [] = true
are_apart (s ∷ tables) = list_all (tables_apart s) tables && are_apart tables

-- the order of tables by name
abbrev pub by_name : StoredTable → StoredTable → Ordering
by_name = on (λ s. s.table.name) (slice_cmp nat_cmp)
