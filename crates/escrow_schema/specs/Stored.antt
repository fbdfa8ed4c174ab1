-- Believed: the tables of a database, with their numbers in its store and their numbers of rows.
use Rattle.std.specs.Prelude.{◌≡◌, ℕ, zero, suc, ℤ, pos, not, if◌then◌else◌, Option, List, [], ◌∷◌, map, filter, find, bytes_eq, int_le, IsTrue}
use Rattle.std.specs.List.{AllByRecursion}
use Rattle.std.specs.Ordering.{int_eq}
use Rattle.escrow_num.specs.Ascending.{IsAscending}
use Rattle.escrow_schema.specs.declared.counted_table.CountedTable.{CountedTable}
use Rattle.escrow_schema.specs.declared.stored.StoredTable.{StoredTable}
use Rattle.escrow_schema.specs.declared.table.TableDef.{TableDef}
use Rattle.escrow_schema.specs.Catalog.{IsCatalog}

-- tables, without their numbers of rows
abbrev pub stored_of : List CountedTable → List StoredTable
stored_of tables = map (λ c. c.stored) tables

-- their definitions
abbrev pub catalog_of : List CountedTable → List TableDef
catalog_of tables = map (λ c. c.stored.table) tables

-- tables as a catalog lists them: their definitions are a catalog, their numbers are 1 or more, and no two have the
-- same number
pub record IsListed (tables : List CountedTable) : Type 0 where
  pub is_catalog : IsCatalog (catalog_of tables)
  pub from_one : AllByRecursion (λ c. IsTrue (int_le (pos 1) c.stored.id)) tables
  pub ids_apart : IsAscending (λ a b. not (int_eq a.stored.id b.stored.id)) tables

-- the table of a name
abbrev pub counted_named : List CountedTable → List ℕ → Option CountedTable
counted_named tables name = find (λ c. bytes_eq c.stored.table.name name) tables

-- a new table, by its number and its definition: it has no rows
abbrev pub new_table : ℤ → TableDef → CountedTable
new_table id table = record { stored = record { id = id; table = table }; rows = 0 }

-- the tables of other names
abbrev pub without_counted : List ℕ → List CountedTable → List CountedTable
without_counted name tables = filter (λ c. not (bytes_eq c.stored.table.name name)) tables

-- a table with another definition
abbrev pub defined_as : TableDef → CountedTable → CountedTable
defined_as table c = record c { stored = record c.stored { table = table } }

-- the tables, with a definition given to the one of its name
abbrev pub with_definition : TableDef → List CountedTable → List CountedTable
with_definition table tables =
    map (λ c. if bytes_eq c.stored.table.name table.name then defined_as table c else c) tables

-- the tables, with the number of rows of the one at a place replaced
abbrev pub recounted : List CountedTable → ℕ → ℕ → List CountedTable
recounted [] place n = []
recounted (c ∷ cs) zero n = record c { rows = n } ∷ cs
recounted (c ∷ cs) (suc place) n = c ∷ recounted cs place n
