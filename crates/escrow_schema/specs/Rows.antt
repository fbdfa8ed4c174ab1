-- Believed: lists of rows, and how they change.
use Rattle.std.specs.Prelude.{◌≤◌, ℕ, ℤ, Bool, not, if◌then◌else◌, Option, unwrap_or, IsSomeAnd, List, [], ◌∷◌, length, map, filter, find, bytes_eq}
use Rattle.std.specs.List.{AllByRecursion}
use Rattle.std.specs.Ordering.{is_lt}
use Rattle.escrow_num.specs.declared.row.Row.{Row}
use Rattle.escrow_num.specs.declared.reservation.Reservation.{Reservation}
use Rattle.escrow_num.specs.declared.value.RowName.{RowName}
use Rattle.escrow_num.specs.declared.value.Value.{Value}
use Rattle.escrow_num.specs.Ascending.{IsAscending}
use Rattle.escrow_num.specs.Order.{same_row, row_cmp}
use Rattle.escrow_num.specs.Reservation.{changes_at}
use Rattle.escrow_checks.specs.Form.{all_changed}
use Rattle.escrow_checks.specs.Grant.{Meets}
use Rattle.escrow_schema.specs.declared.table.TableDef.{TableDef}
use Rattle.escrow_schema.specs.declared.table.TheConstants.TableDef.{MAX_ROWS}
use Rattle.escrow_schema.specs.Catalog.{table_named}
use Rattle.escrow_schema.specs.Fit.{IsRowOf}

-- WHICH ROWS

-- the row of a name
abbrev pub row_named : List Row → RowName → Option Row
row_named rows name = find (λ row. same_row row.name name) rows

-- the rows of a table
abbrev pub rows_of : List Row → List ℕ → List Row
rows_of rows table = filter (λ row. bytes_eq row.name.table table) rows

-- rows are in order of table and key, and no two have the same
abbrev pub row_before : Row → Row → Bool
row_before a b = is_lt (row_cmp a.name b.name)

-- a row is of a table in the catalog
abbrev pub HasTable : List TableDef → Row → Type 0
HasTable catalog row = IsSomeAnd (table_named catalog row.name.table) (λ table. IsRowOf table row)

-- a row meets each check of its table
abbrev pub MeetsChecks : List TableDef → Row → Type 0
MeetsChecks catalog row =
    IsSomeAnd (table_named catalog row.name.table)
    (λ table. AllByRecursion (λ check. Meets check row.amounts) table.checks)

-- rows are of tables in the catalog, in order of table and key, no two with the same; at most 65,536 are of one table
pub record AreRowsOf (catalog : List TableDef) (rows : List Row) : Type 0 where
  pub tables : AllByRecursion (HasTable catalog) rows
  pub row_order : IsAscending row_before rows
  pub few_rows : (table : List ℕ) → length (rows_of rows table) ≤ MAX_ROWS

-- ROWS AFTER A CHANGE

-- the rows with a row added, in their order
abbrev pub with_row : Row → List Row → List Row
with_row row [] = row ∷ []
with_row row (other ∷ rest) =
    if is_lt (row_cmp row.name other.name) then row ∷ other ∷ rest else other ∷ with_row row rest

-- the rows without the one of a name
abbrev pub without_row : RowName → List Row → List Row
without_row name rows = filter (λ row. not (same_row row.name name)) rows

-- the rows without those of a table
abbrev pub without_rows_of : List ℕ → List Row → List Row
without_rows_of table rows = filter (λ row. not (bytes_eq row.name.table table)) rows

-- the items, each replaced by the one beside it if there is one
abbrev pub replaced : {A : Type 0} → List (Option A) → List A → List A
replaced [] items = items
replaced (new ∷ news) [] = []
replaced (new ∷ news) (x ∷ items) = unwrap_or new x ∷ replaced news items

-- a row with plain values replaced if it has this name, else as it is
abbrev pub with_values : RowName → List (Option Value) → Row → Row
with_values name values row = if same_row row.name name then record row { plain = replaced values row.plain } else row

-- the rows with plain values of one of them replaced
abbrev pub with_plain : RowName → List (Option Value) → List Row → List Row
with_plain name values rows = map (with_values name values) rows

-- ROWS WITH RESERVATIONS APPLIED

-- the changes that a reservation makes to a row
abbrev pub changes_to : Row → Reservation → List ℤ
changes_to row = changes_at row.name

-- a row with the changes of the chosen reservations added
abbrev pub row_after : List Reservation → Row → Row
row_after chosen row = record row { amounts = all_changed row.amounts (map (changes_to row) chosen) }

-- the rows with the changes of the chosen reservations added, each to the columns of its row
abbrev pub applied : List Row → List Reservation → List Row
applied rows chosen = map (row_after chosen) rows
