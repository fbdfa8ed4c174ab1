-- Helps: the journals of the sessions as one list.
use Rattle.std.specs.Prelude.{◌≡◌, ℕ, ◌+◌, ◌≤◌, Bool, nat_lt, nat_le, ◌||◌, if◌then◌else◌, List, [], ◌∷◌, length, flat_map, IsTrue}
use Rattle.std.specs.List.{AllByRecursion}
use Rattle.escrow_num.specs.declared.reservation.Reservation.{Reservation}
use Rattle.escrow_num.specs.declared.reservation.TheConstants.Reservation.{MAX_ID}
use Rattle.escrow_journal.specs.Journal.{Journal}
use Rattle.escrow_txn.specs.Sessions.{AreSessions}
use Rattle.escrow_journal.specs.Open.{Open}

-- the reservations, in order of id, with one added
abbrev pub put : Reservation → List Reservation → List Reservation
put r [] = r ∷ []
put r (x ∷ xs) = if nat_lt x.id r.id then x ∷ put r xs else r ∷ x ∷ xs

-- reservations in order of id, which is the order of grant
abbrev pub by_id : List Reservation → List Reservation
by_id [] = []
by_id (r ∷ rest) = put r (by_id rest)

-- whether one reservation's id isn't above another's
abbrev pub in_order : Reservation → Reservation → Bool
in_order a b = nat_le a.id b.id

-- what the journals hold together
abbrev pub opened : List Journal → ℕ → Open
opened journals next = record {
  reservations = by_id (flat_map (λ journal. journal.reservations) journals);
  savepoints = flat_map (λ journal. journal.savepoints) journals;
  next_id = next;
}

-- whether a journal holds a reservation or a savepoint
abbrev pub holds_any : Journal → Bool
holds_any journal = nat_lt 0 (length journal.reservations) || nat_lt 0 (length journal.savepoints)

-- every id of the journal is below the next one
abbrev pub IsBelow : ℕ → Journal → Type 0
IsBelow next journal = AllByRecursion (λ r. IsTrue (nat_lt r.id next)) journal.reservations

-- there is a valid journal for each session, and the ids in them are below the next one
pub record AreJournals (journals : List Journal) (next : ℕ) : Type 0 where
  pub of_sessions : AreSessions journals
  pub below : AllByRecursion (IsBelow next) journals
  pub first_id : 1 ≤ next
  pub last_id : next ≤ MAX_ID + 1
