-- Believed: the tables of a database, and how they change.
use Rattle.std.specs.Prelude.{ℕ, ◌≤◌, Bool, not, nat_le, if◌then◌else◌, Option, is_some, List, [], ◌∷◌, length, filter, find, position, bytes_eq}
use Rattle.std.specs.List.{AllByRecursion}
use Rattle.std.specs.Ordering.{nat_cmp, is_lt}
use Rattle.std.specs.Cmp.Lexicographic.{slice_cmp}
use Rattle.escrow_num.specs.Ascending.{IsAscending}
use Rattle.escrow_num.specs.Refusal.{refuse_if, first_refusal}
use Rattle.escrow_num.specs.declared.refusal.Refusal.{Refusal}
use Rattle.escrow_num.specs.declared.refusal.Refusal.TheVariants as refusal
use Rattle.escrow_schema.specs.declared.table.TableDef.{TableDef}
use Rattle.escrow_schema.specs.declared.catalog.TheConstants.Catalog.{MAX_TABLES}
use Rattle.escrow_schema.specs.Definition.{IsTable}

-- tables are in order of name, and no two have the same name
abbrev pub table_before : TableDef → TableDef → Bool
table_before a b = is_lt (slice_cmp nat_cmp a.name b.name)

-- a catalog has at most 32 tables, in order of name, each of which some text defines
pub record IsCatalog (catalog : List TableDef) : Type 0 where
  pub tables : AllByRecursion IsTable catalog
  pub order : IsAscending table_before catalog
  pub few : length catalog ≤ MAX_TABLES

-- the table of a name
abbrev pub table_named : List TableDef → List ℕ → Option TableDef
table_named catalog name = find (λ table. bytes_eq table.name name) catalog

-- the place of the table of a name in the catalog
abbrev pub place_named : List TableDef → List ℕ → Option ℕ
place_named catalog name = position (λ table. bytes_eq table.name name) catalog

-- the catalog with a table added, in order of name
abbrev pub with_table : TableDef → List TableDef → List TableDef
with_table table [] = table ∷ []
with_table table (other ∷ rest) =
    if is_lt (slice_cmp nat_cmp table.name other.name) then table ∷ other ∷ rest else other ∷ with_table table rest

-- the tables of other names
abbrev pub without_table : List ℕ → List TableDef → List TableDef
without_table name catalog = filter (λ table. not (bytes_eq table.name name)) catalog

-- why a table can't be added, if it can't: first, a table of its name exists; then, the catalog is full
abbrev pub add_refusal : List TableDef → TableDef → Option Refusal
add_refusal catalog table = first_refusal (
    refuse_if (is_some (table_named catalog table.name)) refusal.TableExists
    ∷ refuse_if (nat_le MAX_TABLES (length catalog)) refusal.TooManyTables
    ∷ []
    )
