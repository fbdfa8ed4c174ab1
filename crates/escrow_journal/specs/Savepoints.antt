-- Believed: the savepoint that a name names, and what came after it.
use Rattle.std.specs.Prelude.{ℕ, Bool, ◌==◌, ◌&&◌, not, nat_lt, nat_le, if◌then◌else◌, Option, List, [], ◌∷◌, filter, find, bytes_eq}
use Rattle.escrow_num.specs.declared.reservation.Reservation.{Reservation}
use Rattle.escrow_num.specs.declared.reservation.Savepoint.{Savepoint}
use Rattle.escrow_journal.specs.Reservations.{other_savepoints}

-- whether a savepoint is the session's of this name
abbrev pub is_named : ℕ → List ℕ → Savepoint → Bool
is_named session name p = (p.session == session) && bytes_eq p.name name

-- the session's savepoint of a name
abbrev pub savepoint_of : ℕ → List ℕ → List Savepoint → Option Savepoint
savepoint_of session name savepoints = find (is_named session name) savepoints

-- the savepoints without the session's of this name
abbrev pub without_savepoint : ℕ → List ℕ → List Savepoint → List Savepoint
without_savepoint session name savepoints = filter (λ p. not (is_named session name p)) savepoints

-- the savepoints, in order of session, with one added as the last of its session
abbrev pub put_savepoint : Savepoint → List Savepoint → List Savepoint
put_savepoint p [] = p ∷ []
put_savepoint p (q ∷ rest) = if nat_lt p.session q.session then p ∷ q ∷ rest else q ∷ put_savepoint p rest

-- the savepoints without those that the session made after the one of this name, which stays
abbrev pub through : ℕ → List ℕ → List Savepoint → List Savepoint
through session name [] = []
through session name (p ∷ rest) =
    if is_named session name p then p ∷ other_savepoints session rest else p ∷ through session name rest

-- whether a reservation came after a savepoint: it is of the same session, and its id isn't below the next id when the
-- savepoint was made
abbrev pub is_after : Savepoint → Reservation → Bool
is_after p r = (r.session == p.session) && nat_le p.id r.id

-- the reservations that came after a savepoint, in order of grant: those of its session with an id not below the next
-- id when it was made
abbrev pub after : Savepoint → List Reservation → List Reservation
after p reservations = filter (is_after p) reservations

-- the reservations that didn't come after a savepoint: those of its session with a lower id, and all those of other
-- sessions
abbrev pub not_after : Savepoint → List Reservation → List Reservation
not_after p reservations = filter (λ r. not (is_after p r)) reservations
