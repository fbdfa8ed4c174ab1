-- Helps: what is kept of rows that were read or inserted.
use Rattle.std.specs.Prelude.{◌≡◌, ◌⊎◌, ◌≤◌, ℕ, ℤ, Option, Some, None, IfSome, IsSomeAnd, List, option_map, length, slice_get}
use Rattle.std.specs.Map.{lookup}
use Rattle.escrow_num.specs.Order.{same_row}
use Rattle.escrow_num.specs.declared.reservation.Reservation.{Reservation}
use Rattle.escrow_num.specs.declared.row.Row.{Row}
use Rattle.escrow_num.specs.declared.session.End.TheVariants as end
use Rattle.escrow_num.specs.declared.value.RowName.{RowName}
use Rattle.escrow_bounds.specs.Held.{of_row}
use Rattle.escrow_bounds.specs.Moved.{amounts_after_all}
use Rattle.escrow_schema.specs.declared.table.TableDef.{TableDef}
use Rattle.escrow_schema.specs.Catalog.{table_named}
use Rattle.escrow_schema.specs.Column.{reservables}
use Rattle.escrow_reserved.specs.declared.recent.TheConstants.Recent.{MAX_ROWS}
use Rattle.escrow_reserved.specs.Placed.{amounts_named}

-- WHICH ROWS ARE KEPT

-- a row as it was read or inserted: its name, and its amounts
abbrev pub ReadRow : Type 0
ReadRow = RowName × List ℤ

-- rows that were read or inserted, in any order
abbrev pub ReadRows : Type 0
ReadRows = List ReadRow

-- there are at most as many as may be kept
abbrev pub AreFew : ReadRows → Type 0
AreFew rows = length rows ≤ MAX_ROWS

-- the amounts of a row, if they are kept
abbrev pub read_at : ReadRows → RowName → Option (List ℤ)
read_at rows name = lookup (same_row name) rows

-- the row at a place is that of a name
abbrev pub IsKeptAt : ReadRows → RowName → ℕ → Type 0
IsKeptAt rows name place = option_map (λ (r : ReadRow). r.0) (slice_get rows place) ≡ Some name

-- a row is kept as it was, or is no longer kept
abbrev pub IsLeft : ReadRows → ReadRows → RowName → Type 0
IsLeft old new name = (read_at new name ≡ None) ⊎ (read_at new name ≡ read_at old name)

-- the amounts of a row after reservations are committed: they include the changes of those that are of the row
abbrev pub committed_to : RowName → List Reservation → List ℤ → List ℤ
committed_to name reservations amounts = amounts_after_all end.Commit amounts (of_row name reservations)

-- ONE ROW

-- a row of a name, with these amounts
abbrev pub row_with : RowName → List ℤ → ReadRow
row_with name amounts = (name, amounts)

-- what is kept of the row of a name
abbrev pub row_read : ReadRows → RowName → Option ReadRow
row_read rows name = option_map (row_with name) (read_at rows name)

-- a row has an amount for each RESERVABLE column of its table
abbrev pub IsKnown : List TableDef → Option ReadRow → Type 0
IsKnown catalog read =
    IfSome read (λ r. IsSomeAnd (table_named catalog r.0.table)
    (λ table. length r.1 ≡ length (reservables table.columns)))

-- the amounts of a row are its committed ones
abbrev pub IsRead : List Row → Option ReadRow → Type 0
IsRead rows read = IfSome read (λ r. amounts_named rows r.0 ≡ Some r.1)

-- after reservations are committed, the row's amounts include the changes of those that are of the row
abbrev pub committed_by : List Reservation → ReadRow → ReadRow
committed_by reservations r = (r.0, committed_to r.0 reservations r.1)

-- ALL ROWS

-- each row that is kept has an amount for each RESERVABLE column of its table
abbrev pub AreKnown : List TableDef → ReadRows → Type 0
AreKnown catalog rows = (name : RowName) → IsKnown catalog (row_read rows name)

-- the amounts of each row that is kept are its committed ones
abbrev pub AreRead : List Row → ReadRows → Type 0
AreRead committed rows = (name : RowName) → IsRead committed (row_read rows name)
