-- What the calls keep of a journal, and therefore of all journals of the table.
use Rattle.std.specs.Prelude.{◌≡◌, ℕ, ◌+◌, ◌-◌, ◌≤◌, not, nat_lt, List, [], ◌∷◌, Option, Some, None, option_map, unwrap_or, Result, Ok, Err, OnOk, OnErr, IsTrue}
use Rattle.std.specs.List.{AllByRecursion}
use Rattle.std.proofs.Common.{refl, sym, ◌∙◌, subst, set, le_refl, arith}
use Rattle.std.proofs.lemmas.Bool.{lt-ltb}
use Rattle.escrow_num.specs.declared.refusal.Refusal.{Refusal}
use Rattle.escrow_num.specs.declared.reservation.Reservation.{Reservation}
use Rattle.escrow_num.specs.declared.reservation.Savepoint.{Savepoint}
use Rattle.escrow_num.specs.declared.reservation.TheConstants.Reservation.{MAX_ID}
use Rattle.escrow_num.proofs.Items.{all_filter, all_at}
use Rattle.escrow_journal.specs.Journal.{Journal, IsJournal, empty_journal, pushed, marked, cut_at, cut_journal}
use Rattle.escrow_journal.specs.Reservations.{reservation_before}
use Rattle.escrow_journal.specs.Savepoints.{savepoint_of, is_after}
use Rattle.escrow_txn.specs.Sessions.{AreSessions, journal_at, with_journal}
use Rattle.escrow_txn.specs.Joined.{AreJournals, IsBelow}
use Rattle.escrow_txn.proofs.Places.{IsAt, below_more, all_append, journals_set}

-- a journal of the same session, whose ids are below a number
pub record IsKept (next : ℕ) (new journal : Journal) : Type 0 where
  pub session : new.session ≡ journal.session
  pub below : IsBelow next new

found_kept : (next : ℕ) (journal : Journal) → IsBelow next journal → (o : Option Savepoint) → IsKept next (unwrap_or (option_map (cut_at journal) o) journal) journal
found_kept next journal below None = record { session = refl; below = below }
found_kept next journal below (Some p) = record {
  session = refl;
  below = all_filter (λ (r : Reservation). IsTrue (nat_lt r.id next)) (λ r. not (is_after p r)) journal.reservations below;
}

-- a journal after a return to a savepoint
pub cut_kept : (next : ℕ) (name : List ℕ) (new journal : Journal) → IsBelow next journal → new ≡ cut_journal name journal → IsKept next new journal
cut_kept next name new journal below is =
    subst (λ l. IsKept next l journal) (sym is) (found_kept next journal below (savepoint_of journal.session name journal.savepoints))

-- a journal with one more savepoint, or unchanged
pub mark_kept : (next : ℕ) (name : List ℕ) (result : Result (Unit {0}) Refusal) (new journal : Journal) → IsBelow next journal
    → OnOk result (new ≡ marked name next journal) → OnErr result (new ≡ journal) → IsKept next new journal
mark_kept next name (Ok x) new journal below saved same =
    subst (λ l. IsKept next l journal) (sym saved) (record { session = refl; below = below })
mark_kept next name (Err e) new journal below saved same =
    subst (λ l. IsKept next l journal) (sym same) (record { session = refl; below = below })

-- a journal after it is emptied
pub empty_kept : (next : ℕ) (new journal : Journal) → new ≡ empty_journal journal.session → IsKept next new journal
empty_kept next new journal is = subst (λ l. IsKept next l journal) (sym is) (record { session = refl; below = tt })

-- a journal with one more reservation, with the next id
pub push_kept : (next : ℕ) (r : Reservation) (new journal : Journal) → IsBelow next journal → r.id ≡ next → new ≡ pushed r journal → IsKept (next + 1) new journal
push_kept next r new journal below id is =
    subst (λ l. IsKept (next + 1) l journal) (sym is) (record {
      session = refl;
      below = all_append (λ (x : Reservation). IsTrue (nat_lt x.id (next + 1))) journal.reservations (r ∷ [])
          (below_more journal next (next + 1) (omega arith) below) (lt-ltb r.id (next + 1) (omega arith), tt);
    })

-- the ids of a journal are below the next one
pub below_at : (logs : List Journal) (next session i : ℕ) (journal : Journal) → AreJournals logs next → IsAt session logs i journal → IsBelow next journal
below_at logs next session i journal journals at = all_at (IsBelow next) logs i journal at.within at.read journals.below

-- they are below a reservation with the next id
pub below_next : (next : ℕ) (r : Reservation) (journal : Journal) → IsBelow next journal → r.id ≡ next
    → AllByRecursion (λ earlier. IsTrue (reservation_before earlier r)) journal.reservations
below_next next r journal below id = subst (λ n. IsBelow n journal) (sym id) below

-- all journals, with this one replaced
pub journals_kept : (logs : List Journal) (next new_next i : ℕ) (new journal : Journal) → AreJournals logs next → AreSessions (set logs i new)
    → IsKept new_next new journal → next ≤ new_next → new_next ≤ MAX_ID + 1 → AreJournals (set logs i new) new_next
journals_kept logs next new_next i new journal journals of_sessions kept more last =
    journals_set logs next new_next i new journals of_sessions kept.below more last

-- the same if the next id stays
pub journals_stay : (logs : List Journal) (next session i : ℕ) (new journal : Journal) → AreJournals logs next → IsAt session logs i journal
    → AreSessions (set logs i new) → (IsBelow next journal → IsKept next new journal) → AreJournals (set logs i new) next
journals_stay logs next session i new journal journals at of_sessions kept =
    journals_kept logs next next i new journal journals of_sessions (kept (below_at logs next session i journal journals at)) (le_refl next) journals.last_id

-- a savepoint was made in the journal of a session, or nothing changed
pub marked_journals : (result : Result (Unit {0}) Refusal) (logs new : List Journal) (next session : ℕ) (name : List ℕ) → AreJournals logs next → IsAt session logs (session - 1) (journal_at logs session)
    → OnOk result (new ≡ with_journal logs session (marked name next (journal_at logs session))) → OnErr result (new ≡ logs) → AreSessions new → AreJournals new next
marked_journals (Ok x) logs new next session name journals at saved same of_sessions =
    subst (λ (ls : List Journal). AreJournals ls next) (sym saved)
    (journals_stay logs next session (session - 1) (marked name next (journal_at logs session)) (journal_at logs session) journals at (subst AreSessions saved of_sessions)
    (λ below. record { session = refl; below = below }))
marked_journals (Err e) logs new next session name journals at saved same of_sessions = subst (λ (ls : List Journal). AreJournals ls next) (sym same) journals
