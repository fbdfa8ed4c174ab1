-- Believed: what every statement preserves of a state.
use Rattle.std.specs.Prelude.{◌≡◌, ℕ, ◌+◌, ◌<◌, ◌≤◌, IsSome, List, length, IsSomeAnd}
use Rattle.std.specs.List.{AllByRecursion}
use Rattle.escrow_num.specs.declared.row.Row.{Row}
use Rattle.escrow_num.specs.declared.value.RowName.{RowName}
use Rattle.escrow_num.specs.declared.reservation.Reservation.{Reservation}
use Rattle.escrow_num.specs.declared.reservation.Savepoint.{Savepoint}
use Rattle.escrow_num.specs.declared.reservation.TheConstants.Reservation.{MAX_ID}
use Rattle.escrow_num.specs.Ascending.{IsAscending}
use Rattle.escrow_num.specs.Session.{IsSession}
use Rattle.escrow_checks.specs.Sublists.{sublists}
use Rattle.escrow_checks.specs.declared.spread.TheConstants.Spread.{MAX_OPEN}
use Rattle.escrow_schema.specs.declared.table.TableDef.{TableDef}
use Rattle.escrow_schema.specs.Catalog.{IsCatalog, table_named}
use Rattle.escrow_schema.specs.Column.{reservables}
use Rattle.escrow_schema.specs.declared.table.TheConstants.TableDef.{MAX_ROWS}
use Rattle.escrow_journal.specs.declared.journal.TheConstants.Journal.{MAX_RESERVATIONS, MAX_SAVEPOINTS}
use Rattle.escrow_journal.specs.Reservations.{own, own_savepoints, reservation_before, savepoint_before}
use Rattle.escrow_machine.specs.State.{State, on_row}
use Rattle.escrow_schema.specs.Rows.{row_named, rows_of, row_before, HasTable, MeetsChecks, applied}

-- a reservation is of a session, has an id below the next one, and has a change, or none, for each RESERVABLE column of
-- its table
pub record IsReservationIn (catalog : List TableDef) (next_id : ℕ) (r : Reservation) : Type 0 where
  pub session : IsSession r.session
  pub first : 1 ≤ r.id
  pub below : r.id < next_id
  pub changes : IsSomeAnd (table_named catalog r.row.table)
      (λ table. length r.changes ≡ length (reservables table.columns))

-- a savepoint is of a session, and has an id up to the next one
pub record IsSavepointIn (next_id : ℕ) (p : Savepoint) : Type 0 where
  pub session : IsSession p.session
  pub first : 1 ≤ p.id
  pub within : p.id ≤ next_id

-- what holds of the catalog, the reservations, the savepoints and the next id, whatever the rows
pub record IsOrderly (catalog : List TableDef) (reservations : List Reservation) (savepoints : List Savepoint)
    (next_id : ℕ) : Type 0 where
  pub tables : IsCatalog catalog
  pub reservations_in : AllByRecursion (IsReservationIn catalog next_id) reservations
  pub reservation_order : IsAscending reservation_before reservations
  pub few_reservations : (session : ℕ) → length (own session reservations) ≤ MAX_RESERVATIONS
  pub few_on_rows : (name : RowName) → length (on_row name reservations) ≤ MAX_OPEN
  pub savepoints_in : AllByRecursion (IsSavepointIn next_id) savepoints
  pub savepoint_order : IsAscending savepoint_before savepoints
  pub few_savepoints : (session : ℕ) → length (own_savepoints session savepoints) ≤ MAX_SAVEPOINTS
  pub first_id : 1 ≤ next_id
  pub last_id : next_id ≤ MAX_ID + 1

-- a reservation's row exists
abbrev pub HasRow : List Row → Reservation → Type 0
HasRow rows r = IsSome (row_named rows r.row)

-- what holds of the rows. The main part is `safe`: whichever of the open reservations are applied, each row meets each
-- check of its table
pub record AreSafeRows (catalog : List TableDef) (rows : List Row) (reservations : List Reservation) : Type 0 where
  pub tables : AllByRecursion (HasTable catalog) rows
  pub row_order : IsAscending row_before rows
  pub few_rows : (table : List ℕ) → length (rows_of rows table) ≤ MAX_ROWS
  pub reserved_rows : AllByRecursion (HasRow rows) reservations
  pub safe : AllByRecursion
      (λ chosen. AllByRecursion (MeetsChecks catalog) (applied rows chosen)) (sublists reservations)

-- A state is valid. Every statement preserves this.
pub record IsValid (s : State) : Type 0 where
  pub orderly : IsOrderly s.catalog s.reservations s.savepoints s.next_id
  pub safe_rows : AreSafeRows s.catalog s.rows s.reservations
