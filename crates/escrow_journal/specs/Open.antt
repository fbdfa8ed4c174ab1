-- Believed: what is open in a database, and how it changes.
use Rattle.std.specs.Prelude.{ℕ, ◌+◌, ℤ, Bool, ◌||◌, nat_lt, nat_le, if◌then◌else◌, Option, Some, None, option_map, unwrap_or, List, [], ◌∷◌, ◌++◌, length}
use Rattle.escrow_num.specs.declared.refusal.Refusal.{Refusal}
use Rattle.escrow_num.specs.declared.refusal.Refusal.TheVariants as refusal
use Rattle.escrow_num.specs.declared.reservation.Reservation.{Reservation}
use Rattle.escrow_num.specs.declared.reservation.Savepoint.{Savepoint}
use Rattle.escrow_num.specs.declared.reservation.TheConstants.Reservation.{MAX_ID}
use Rattle.escrow_num.specs.declared.value.RowName.{RowName}
use Rattle.escrow_num.specs.Refusal.{refuse_if, first_refusal}
use Rattle.escrow_journal.specs.declared.journal.TheConstants.Journal.{MAX_RESERVATIONS, MAX_SAVEPOINTS}
use Rattle.escrow_journal.specs.Reservations.{own, others, own_savepoints, other_savepoints}
use Rattle.escrow_journal.specs.Savepoints.{savepoint_of, without_savepoint, put_savepoint, through, after, not_after}

-- What is open in a database. The open reservations of all sessions are ONE list, in order of grant. The savepoints are
-- in order of session, and in a session in the order in which they were made. `next_id` is the id that the next
-- reservation takes.
pub record Open : Type 0 where
  pub reservations : List Reservation
  pub savepoints : List Savepoint
  pub next_id : ℕ

-- nothing is open, and the next id is 1
abbrev pub nothing_open : Open
nothing_open = record { reservations = []; savepoints = []; next_id = 1 }

-- whether a session's transaction is open: it holds a reservation or a savepoint
abbrev pub is_open : ℕ → Open → Bool
is_open session o =
    nat_lt 0 (length (own session o.reservations)) || nat_lt 0 (length (own_savepoints session o.savepoints))

-- whether anything is open: a reservation or a savepoint of any session
abbrev pub has_open : Open → Bool
has_open o = nat_lt 0 (length o.reservations) || nat_lt 0 (length o.savepoints)

-- the next id, if one is left
abbrev pub id_left : ℕ → Option ℕ
id_left next_id = if nat_le next_id MAX_ID then Some next_id else None

-- why a session can't get a reservation: it holds as many as it may, or there are no more ids
abbrev pub grant_refusal : ℕ → Open → Option Refusal
grant_refusal session o = first_refusal (
    refuse_if (nat_le MAX_RESERVATIONS (length (own session o.reservations))) refusal.TooManyReservations
    ∷ refuse_if (nat_lt MAX_ID o.next_id) refusal.NoMoreIds
    ∷ [])

-- one more reservation, at the end of the open ones, with the next id, which rises by one
abbrev pub open_after_grant : ℕ → RowName → List (Option ℤ) → Open → Open
open_after_grant session row changes o = record o {
  reservations = o.reservations ++ (record { id = o.next_id; session = session; row = row; changes = changes }) ∷ [];
  next_id = o.next_id + 1;
}

-- why a session can't get a savepoint of a name: it has as many of other names as it may
abbrev pub savepoint_refusal : ℕ → List ℕ → Open → Option Refusal
savepoint_refusal session name o =
    refuse_if (nat_le MAX_SAVEPOINTS (length (own_savepoints session (without_savepoint session name o.savepoints))))
    refusal.TooManySavepoints

-- a savepoint of a session, the last of its own, in place of an earlier one of that name; it has the id that the next
-- reservation takes
abbrev pub open_after_savepoint : ℕ → List ℕ → Open → Open
open_after_savepoint session name o = record o {
  savepoints =
      put_savepoint (record { session = session; name = name; id = o.next_id })
      (without_savepoint session name o.savepoints);
}

-- how many reservations came after the session's savepoint of a name, if there is one
abbrev pub released : ℕ → List ℕ → Open → Option ℕ
released session name o = option_map (λ p. length (after p o.reservations)) (savepoint_of session name o.savepoints)

-- without the reservations after a savepoint, and without the savepoints that its session made after it
abbrev pub returned_to : Open → Savepoint → Open
returned_to o p =
    record o { reservations = not_after p o.reservations; savepoints = through p.session p.name o.savepoints }

-- the session has gone back to its savepoint of a name, if there is one
abbrev pub open_after_rollback_to : ℕ → List ℕ → Open → Open
open_after_rollback_to session name o =
    unwrap_or (option_map (returned_to o) (savepoint_of session name o.savepoints)) o

-- the session's transaction has ended: none of its reservations and savepoints are left
abbrev pub open_after_end : ℕ → Open → Open
open_after_end session o =
    record o { reservations = others session o.reservations; savepoints = other_savepoints session o.savepoints }
