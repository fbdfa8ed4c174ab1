-- Believed: the state of a database, and what is read from it.
use Rattle.std.specs.Prelude.{ℕ, Bool, List, [], bytes_eq, filter, length, nat_le}
use Rattle.std.specs.List.{list_any}
use Rattle.escrow_num.specs.declared.value.RowName.{RowName}
use Rattle.escrow_num.specs.declared.row.Row.{Row}
use Rattle.escrow_num.specs.declared.reservation.Reservation.{Reservation}
use Rattle.escrow_num.specs.declared.reservation.Savepoint.{Savepoint}
use Rattle.escrow_num.specs.Order.{same_row}
use Rattle.escrow_checks.specs.declared.spread.TheConstants.Spread.{MAX_OPEN}
use Rattle.escrow_schema.specs.declared.table.TableDef.{TableDef}
use Rattle.escrow_journal.specs.Open.{Open}
use Rattle.escrow_journal.specs.Open as journal

-- The state of a database. The catalog is in order of the tables' names, the committed rows in order of table and key.
-- The open reservations of all sessions are ONE list, in order of grant. The savepoints are in order of session, and in
-- a session in the order in which they were made, so a new one is put in its session's place. `next_id` is the id that
-- the next reservation takes.
pub record State : Type 0 where
  pub catalog : List TableDef
  pub rows : List Row
  pub reservations : List Reservation
  pub savepoints : List Savepoint
  pub next_id : ℕ

-- a database with these tables and rows, in which nothing is open and the next id is 1
abbrev pub opened : List TableDef → List Row → State
opened catalog rows = record { catalog = catalog; rows = rows; reservations = []; savepoints = []; next_id = 1 }

-- a database without tables
abbrev pub empty : State
empty = opened [] []

-- what is open in a state
abbrev pub open_in : State → Open
open_in s = record { reservations = s.reservations; savepoints = s.savepoints; next_id = s.next_id }

-- the state with its open part replaced
abbrev pub with_open : State → Open → State
with_open s o = record s { reservations = o.reservations; savepoints = o.savepoints; next_id = o.next_id }

-- whether a session's transaction is open in a state
abbrev pub is_open : ℕ → State → Bool
is_open session s = journal.is_open session (open_in s)

-- whether anything is open in a state: a reservation or a savepoint of any session
abbrev pub has_open : State → Bool
has_open s = journal.has_open (open_in s)

-- whether an open reservation, of any session, is of the row
abbrev pub is_reserved : State → RowName → Bool
is_reserved s name = list_any (λ r. same_row r.row name) s.reservations

-- the open reservations of a row, of all sessions, in order of grant
abbrev pub on_row : RowName → List Reservation → List Reservation
on_row name reservations = filter (λ r. same_row name r.row) reservations

-- whether as many open reservations, of all sessions, are of the row as a row may have
abbrev pub is_row_full : State → RowName → Bool
is_row_full s name = nat_le MAX_OPEN (length (on_row name s.reservations))

-- whether an open reservation, of any session, is of a row of the table
abbrev pub is_table_reserved : State → List ℕ → Bool
is_table_reserved s table = list_any (λ r. bytes_eq r.row.table table) s.reservations
