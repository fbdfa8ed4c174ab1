-- Believed: the open reservations and savepoints of one session, and their order.
use Rattle.std.specs.Prelude.{ℕ, Bool, ◌==◌, ◌||◌, ◌&&◌, not, nat_lt, nat_le, List, filter, bytes_eq}
use Rattle.escrow_num.specs.declared.reservation.Reservation.{Reservation}
use Rattle.escrow_num.specs.declared.reservation.Savepoint.{Savepoint}

-- the open reservations of a session, in order of grant
abbrev pub own : ℕ → List Reservation → List Reservation
own session reservations = filter (λ r. r.session == session) reservations

-- those of the other sessions
abbrev pub others : ℕ → List Reservation → List Reservation
others session reservations = filter (λ r. not (r.session == session)) reservations

-- the savepoints of a session, in the order in which they were made
abbrev pub own_savepoints : ℕ → List Savepoint → List Savepoint
own_savepoints session savepoints = filter (λ p. p.session == session) savepoints

-- those of the other sessions
abbrev pub other_savepoints : ℕ → List Savepoint → List Savepoint
other_savepoints session savepoints = filter (λ p. not (p.session == session)) savepoints

-- reservations are in order of id, and no two have the same id
abbrev pub reservation_before : Reservation → Reservation → Bool
reservation_before a b = nat_lt a.id b.id

-- savepoints are in order of session; in a session their ids never fall, and no two have the same name
abbrev pub savepoint_before : Savepoint → Savepoint → Bool
savepoint_before a b =
    nat_lt a.session b.session || ((a.session == b.session) && nat_le a.id b.id && not (bytes_eq a.name b.name))
