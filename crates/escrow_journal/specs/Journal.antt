-- Believed: what a journal holds, and how its calls change it.
use Rattle.std.specs.Prelude.{◌≡◌, ℕ, ◌≤◌, Bool, nat_le, Option, option_map, unwrap_or, List, [], ◌∷◌, ◌++◌, length}
use Rattle.std.specs.List.{AllByRecursion}
use Rattle.escrow_num.specs.Ascending.{IsAscending}
use Rattle.escrow_num.specs.Session.{IsSession}
use Rattle.escrow_num.specs.declared.reservation.Reservation.{Reservation}
use Rattle.escrow_num.specs.declared.reservation.Savepoint.{Savepoint}
use Rattle.escrow_journal.specs.declared.journal.TheConstants.Journal.{MAX_RESERVATIONS, MAX_SAVEPOINTS}
use Rattle.escrow_journal.specs.Reservations.{reservation_before}
use Rattle.escrow_journal.specs.Savepoints.{savepoint_of, without_savepoint, through, after, not_after}

-- The journal of a session: its open reservations in order of grant, and its savepoints in the order in which they were
-- made.
pub record Journal : Type 0 where
  pub session : ℕ
  pub reservations : List Reservation
  pub savepoints : List Savepoint

-- an empty journal of a session
abbrev pub empty_journal : ℕ → Journal
empty_journal session = record { session = session; reservations = []; savepoints = [] }

-- what every call preserves: all that the journal holds is of its session, ids rise in order of grant, and neither list
-- is longer than a session's may be
pub record IsJournal (log : Journal) : Type 0 where
  pub session : IsSession log.session
  pub reservations_own : AllByRecursion (λ r. r.session ≡ log.session) log.reservations
  pub reservation_order : IsAscending reservation_before log.reservations
  pub few_reservations : length log.reservations ≤ MAX_RESERVATIONS
  pub savepoints_own : AllByRecursion (λ p. p.session ≡ log.session) log.savepoints
  pub few_savepoints : length log.savepoints ≤ MAX_SAVEPOINTS

-- whether a journal has as many reservations as it may have
abbrev pub is_full : Journal → Bool
is_full log = nat_le MAX_RESERVATIONS (length log.reservations)

-- whether a journal has as many savepoints of other names as it may have
abbrev pub is_full_beside : List ℕ → Journal → Bool
is_full_beside name log = nat_le MAX_SAVEPOINTS (length (without_savepoint log.session name log.savepoints))

-- the journal with one more reservation at the end
abbrev pub pushed : Reservation → Journal → Journal
pushed r log = record log { reservations = log.reservations ++ r ∷ [] }

-- the journal with a savepoint of a name at the end, in place of an earlier one of that name
abbrev pub marked : List ℕ → ℕ → Journal → Journal
marked name id log = record log {
  savepoints =
      without_savepoint log.session name log.savepoints
      ++ (record { session = log.session; name = name; id = id }) ∷ [];
}

-- the reservations after the savepoint of a name, if there is one
abbrev pub later : List ℕ → Journal → Option (List Reservation)
later name log = option_map (λ p. after p log.reservations) (savepoint_of log.session name log.savepoints)

-- the journal without the reservations after a savepoint, and without the savepoints after it
abbrev pub cut_at : Journal → Savepoint → Journal
cut_at log p =
    record log { reservations = not_after p log.reservations; savepoints = through log.session p.name log.savepoints }

-- the journal, gone back to the savepoint of a name if there is one
abbrev pub cut_journal : List ℕ → Journal → Journal
cut_journal name log = unwrap_or (option_map (cut_at log) (savepoint_of log.session name log.savepoints)) log
