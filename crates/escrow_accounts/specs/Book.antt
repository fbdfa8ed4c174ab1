-- Believed: the book of a run: what it puts into rows, what it takes out of them, and which reservations it ends.
use Rattle.std.specs.Prelude.{ℕ, ℤ, ◌+ℤ◌, pos, neg_ℤ, Bool, if◌then◌else◌, Option, option_map, unwrap_or, List, [], ◌∷◌, ◌++◌, length, map, filter, slice_index_or}
use Rattle.escrow_num.specs.declared.reservation.Reservation.{Reservation}
use Rattle.escrow_num.specs.declared.row.Row.{Row}
use Rattle.escrow_num.specs.declared.value.RowName.{RowName}
use Rattle.escrow_num.specs.Order.{same_row}
use Rattle.escrow_num.specs.Reservation.{deltas}
use Rattle.escrow_statement.specs.declared.statement.Statement.TheVariants as statement
use Rattle.escrow_schema.specs.Rows.{rows_of}
use Rattle.escrow_journal.specs.Reservations.{own}
use Rattle.escrow_journal.specs.Savepoints.{savepoint_of, after}
use Rattle.escrow_machine.specs.declared.event.Event.{Event}
use Rattle.escrow_machine.specs.declared.event.Event.TheVariants as event
use Rattle.escrow_machine.specs.declared.reply.Reply.{Reply}
use Rattle.escrow_machine.specs.Asked.{new_row, named_by, reservation_of}
use Rattle.escrow_machine.specs.Reply.{is_refused}
use Rattle.escrow_machine.specs.State.{State, opened}
use Rattle.escrow_machine.specs.Step.{step}

-- one entry of the book
pub data Move : Type 0 where
  -- a row is inserted
  put : (row : Row) → Move
  -- a row is deleted, or is dropped with its table
  taken : (row : Row) → Move
  -- a reservation is granted. No row has its change yet
  granted : (r : Reservation) → Move
  -- a reservation is committed. Its row has its change from now on
  committed : (r : Reservation) → Move
  -- a reservation is rolled back, or a restart drops it. No row ever has its change
  released : (r : Reservation) → Move

-- THE MOVES OF AN EVENT that isn't refused. All other statements move nothing
abbrev pub moves_of : State → Event → List Move
moves_of s (event.Statement session (statement.Insert text)) =
    unwrap_or (option_map (λ row. put row ∷ []) (new_row s text)) []
moves_of s (event.Statement session (statement.Delete text)) =
    map taken (filter (λ row. same_row row.name (named_by s.catalog text.table text.row)) s.rows)
moves_of s (event.Statement session (statement.Drop name)) = map taken (rows_of s.rows name)
moves_of s (event.Statement session (statement.Update text)) =
    unwrap_or (option_map (λ r. granted r ∷ []) (reservation_of s session text)) []
moves_of s (event.Statement session statement.Commit) = map committed (own session s.reservations)
moves_of s (event.Statement session statement.Rollback) = map released (own session s.reservations)
moves_of s (event.Statement session (statement.RollbackTo name)) =
    unwrap_or (option_map (λ p. map released (after p s.reservations)) (savepoint_of session name s.savepoints)) []
moves_of s (event.Statement session asked) = []
moves_of s event.Restart = map released s.reservations

-- the state after an event that isn't refused
abbrev pub after_event : State → Event → State
after_event s (event.Statement session asked) = (step s session asked).1
after_event s event.Restart = opened s.catalog s.rows

-- THE BOOK OF A RUN: the moves of its events, in order. An event that is refused moves nothing, and leaves the state
abbrev pub book : State → List Event → List Reply → List Move
book s [] answers = []
book s (happened ∷ events) [] = []
book s (happened ∷ events) (answer ∷ answers) =
    if is_refused answer then book s events answers
    else moves_of s happened ++ book (after_event s happened) events answers

-- SUMS. `chosen` says which rows count, as those of one table, or a single row. A column is given by its place among
-- the RESERVABLE columns, from 0

-- the amount of a row in a column
abbrev pub amount_at : ℕ → Row → ℤ
amount_at column row = slice_index_or row.amounts column (pos 0)

-- what a reservation adds in a column
abbrev pub change_at : ℕ → Reservation → ℤ
change_at column r = slice_index_or (deltas r.changes) column (pos 0)

-- the amounts in a column, of the chosen rows together
abbrev pub total : (RowName → Bool) → ℕ → List Row → ℤ
total chosen column [] = pos 0
total chosen column (row ∷ rows) = (if chosen row.name then amount_at column row else pos 0) +ℤ total chosen column rows

-- what a move adds to the amounts in a column, of the chosen rows together
abbrev pub worth : (RowName → Bool) → ℕ → Move → ℤ
worth chosen column (put row) = if chosen row.name then amount_at column row else pos 0
worth chosen column (taken row) = if chosen row.name then neg_ℤ (amount_at column row) else pos 0
worth chosen column (committed r) = if chosen r.row then change_at column r else pos 0
worth chosen column (granted r) = pos 0
worth chosen column (released r) = pos 0

-- what moves add together
abbrev pub balance : (RowName → Bool) → ℕ → List Move → ℤ
balance chosen column [] = pos 0
balance chosen column (m ∷ moves) = worth chosen column m +ℤ balance chosen column moves

-- RESERVATIONS of a book: those that it grants, commits and releases

abbrev pub granted_in : List Move → List Reservation
granted_in [] = []
granted_in (granted r ∷ moves) = r ∷ granted_in moves
granted_in (m ∷ moves) = granted_in moves

abbrev pub committed_in : List Move → List Reservation
committed_in [] = []
committed_in (committed r ∷ moves) = r ∷ committed_in moves
committed_in (m ∷ moves) = committed_in moves

abbrev pub released_in : List Move → List Reservation
released_in [] = []
released_in (released r ∷ moves) = r ∷ released_in moves
released_in (m ∷ moves) = released_in moves

-- how many reservations are of a kind
abbrev pub number : (Reservation → Bool) → List Reservation → ℕ
number kind reservations = length (filter kind reservations)
