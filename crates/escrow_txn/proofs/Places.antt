-- The index of a session's journal among the journals.
use Rattle.std.specs.Prelude.{◌≡◌, ℕ, ◌+◌, ◌-◌, ◌<◌, ◌≤◌, nat_lt, List, [], ◌∷◌, ◌++◌, length, IsTrue}
use Rattle.std.specs.List.{AllByRecursion, flat_map}
use Rattle.std.proofs.Common.{zero, suc, refl, ap, ◌∙◌, subst, take, drop, set, get_or, arith}
use Rattle.std.proofs.lemmas.Bool.{lt-ltb, ltb-true}
use Rattle.std.proofs.lemmas.List.{set_split, length-set, set-get_or}
use Rattle.escrow_num.specs.Session.{IsSession}
use Rattle.escrow_num.specs.declared.reservation.TheConstants.Reservation.{MAX_ID}
use Rattle.escrow_num.proofs.Items.{all_has, has_all, all_at}
use Rattle.escrow_journal.specs.Journal.{Journal, IsJournal, empty_journal}
use Rattle.escrow_txn.specs.Joined.{AreJournals, IsBelow}
use Rattle.escrow_txn.specs.Sessions.{AreNumbered, AreSessions, journal_at}

-- what holds for all other items and for a new one holds for all after the replacement
pub all_set : {A : Type 0} (P : A → Type 0) (xs : List A) (i : ℕ) (x : A) → AllByRecursion P xs → P x → AllByRecursion P (set xs i x)
all_set P [] i x all here = tt
all_set P (y ∷ ys) zero x all here = (here, all.1)
all_set P (y ∷ ys) (suc i) x all here = (all.0, all_set P ys i x all.1 here)

-- what holds for all items of two lists holds for the joined list
pub all_append : {A : Type 0} (P : A → Type 0) (xs ys : List A) → AllByRecursion P xs → AllByRecursion P ys → AllByRecursion P (xs ++ ys)
all_append P [] ys first second = second
all_append P (x ∷ xs) ys first second = (first.0, all_append P xs ys first.1 second)

pub all_take : {A : Type 0} (P : A → Type 0) (i : ℕ) (xs : List A) → AllByRecursion P xs → AllByRecursion P (take i xs)
all_take P zero xs all = tt
all_take P (suc i) [] all = tt
all_take P (suc i) (x ∷ xs) all = (all.0, all_take P i xs all.1)

pub all_drop : {A : Type 0} (P : A → Type 0) (i : ℕ) (xs : List A) → AllByRecursion P xs → AllByRecursion P (drop i xs)
all_drop P zero xs all = all
all_drop P (suc i) [] all = tt
all_drop P (suc i) (x ∷ xs) all = all_drop P i xs all.1

-- what holds for everything that the items hold
pub all_flat : {A B : Type 0} (P : A → Type 0) (Q : B → Type 0) (f : A → List B) (xs : List A) → ((x : A) → P x → AllByRecursion Q (f x))
    → AllByRecursion P xs → AllByRecursion Q (flat_map f xs)
all_flat P Q f [] each all = tt
all_flat P Q f (x ∷ xs) each all = all_append Q (f x) (flat_map f xs) (each x all.0) (all_flat P Q f xs each all.1)

pub numbered_set : (first : ℕ) (logs : List Journal) (i : ℕ) (journal : Journal) → AreNumbered first logs → journal.session ≡ first + i → AreNumbered first (set logs i journal)
numbered_set first [] i journal numbered is = tt
numbered_set first (x ∷ xs) zero journal numbered is = (is ∙ omega arith, numbered.1)
numbered_set first (x ∷ xs) (suc i) journal numbered is = (numbered.0, numbered_set (1 + first) xs i journal numbered.1 (is ∙ omega arith))

pub numbered_at : (first : ℕ) (logs : List Journal) (i : ℕ) (journal : Journal) → AreNumbered first logs → i < length logs → (get_or logs i journal).session ≡ first + i
numbered_at first [] i journal numbered within = absurd (omega arith)
numbered_at first (x ∷ xs) zero journal numbered within = numbered.0 ∙ omega arith
numbered_at first (x ∷ xs) (suc i) journal numbered within = numbered_at (1 + first) xs i journal numbered.1 (omega arith) ∙ omega arith

-- the sessions of the journals before an index
numbered_before : (first : ℕ) (logs : List Journal) (i : ℕ) → AreNumbered first logs → AllByRecursion (λ journal. IsTrue (nat_lt journal.session (first + i))) (take i logs)
numbered_before first logs zero numbered = tt
numbered_before first [] (suc i) numbered = tt
numbered_before first (x ∷ xs) (suc i) numbered = (
  lt-ltb x.session (first + suc i) (omega (arith, numbered.0)),
  subst (λ n. AllByRecursion (λ journal. IsTrue (nat_lt journal.session n)) (take i xs)) (omega arith) (numbered_before (1 + first) xs i numbered.1),
)

numbered_from : (first : ℕ) (logs : List Journal) (n : ℕ) → n < first → AreNumbered first logs → AllByRecursion (λ journal. IsTrue (nat_lt n journal.session)) logs
numbered_from first [] n less numbered = tt
numbered_from first (x ∷ xs) n less numbered = (lt-ltb n x.session (omega (arith, numbered.0)), numbered_from (1 + first) xs n (omega arith) numbered.1)

-- the sessions of the journals after an index
numbered_behind : (first : ℕ) (logs : List Journal) (i n : ℕ) → n < first + i → AreNumbered first logs → AllByRecursion (λ journal. IsTrue (nat_lt n journal.session)) (drop i logs)
numbered_behind first logs zero n less numbered = numbered_from first logs n (omega arith) numbered
numbered_behind first [] (suc i) n less numbered = tt
numbered_behind first (x ∷ xs) (suc i) n less numbered = numbered_behind (1 + first) xs i n (omega arith) numbered.1

-- A journal's index: it is the journal of a session; those before it are of smaller sessions,
-- those after it of greater ones, and all of them are journals.
pub record IsAt (session : ℕ) (logs : List Journal) (i : ℕ) (journal : Journal) : Type 0 where
  pub is_session : IsSession session
  pub index : i + 1 ≡ session
  pub within : i < length logs
  pub read : journal ≡ get_or logs i journal
  pub number : journal.session ≡ session
  pub is_journal : IsJournal journal
  pub split : (y : Journal) → set logs i y ≡ take i logs ++ y ∷ drop (suc i) logs
  pub same : set logs i journal ≡ logs
  pub below : AllByRecursion (λ l. IsTrue (nat_lt l.session session)) (take i logs)
  pub above : AllByRecursion (λ l. IsTrue (nat_lt session l.session)) (drop (suc i) logs)
  pub before : AllByRecursion IsJournal (take i logs)
  pub behind : AllByRecursion IsJournal (drop (suc i) logs)

-- a session's journal is at the index that is one less than the session's number
pub place_is : (logs : List Journal) (next session i : ℕ) (journal : Journal) → AreJournals logs next → IsSession session → i + 1 ≡ session
    → journal ≡ get_or logs i journal → IsAt session logs i journal
place_is logs next session i journal journals is_session index read =
    let within : i < length logs = omega (arith, journals.of_sessions.count, is_session.1) in
    record {
      is_session = is_session;
      index = index;
      within = within;
      read = read;
      number = ap (λ (l : Journal). l.session) read ∙ numbered_at 1 logs i journal journals.of_sessions.numbered within ∙ omega arith;
      is_journal = all_at IsJournal logs i journal within read journals.of_sessions.each;
      split = λ y. set_split logs i y within;
      same = ap (set logs i) read ∙ set-get_or logs i journal;
      below = subst (λ n. AllByRecursion (λ l. IsTrue (nat_lt l.session n)) (take i logs)) (omega arith) (numbered_before 1 logs i journals.of_sessions.numbered);
      above = numbered_behind 1 logs (suc i) session (omega arith) journals.of_sessions.numbered;
      before = all_take IsJournal i logs journals.of_sessions.each;
      behind = all_drop IsJournal (suc i) logs journals.of_sessions.each;
    }

-- the journal of a session is at that index
pub place_of : (logs : List Journal) (next session : ℕ) → AreJournals logs next → IsSession session → IsAt session logs (session - 1) (journal_at logs session)
place_of logs next session journals is_session =
    place_is logs next session (session - 1) (journal_at logs session) journals is_session (omega (arith, is_session))
    (get_or_itself logs (session - 1) (empty_journal session) (omega (arith, is_session, journals.of_sessions.count)))
  where
    get_or_itself : (xs : List Journal) (i : ℕ) (d : Journal) → i < length xs → get_or xs i d ≡ get_or xs i (get_or xs i d)
    get_or_itself [] i d within = absurd (omega (arith, within))
    get_or_itself (x ∷ xs) zero d within = refl
    get_or_itself (x ∷ xs) (suc i) d within = get_or_itself xs i d (omega (arith, within))

-- ids below a number are below a greater one
pub below_more : (journal : Journal) (next new_next : ℕ) → next ≤ new_next → IsBelow next journal → IsBelow new_next journal
below_more journal next new_next more below =
    has_all (λ r. IsTrue (nat_lt r.id new_next)) journal.reservations
    (λ r h. lt-ltb r.id new_next (omega (arith, ltb-true r.id next (all_has (λ x. IsTrue (nat_lt x.id next)) journal.reservations below r h))))

all_below : (logs : List Journal) (next new_next : ℕ) → next ≤ new_next → AllByRecursion (IsBelow next) logs → AllByRecursion (IsBelow new_next) logs
all_below [] next new_next more below = tt
all_below (journal ∷ logs) next new_next more below = (below_more journal next new_next more below.0, all_below logs next new_next more below.1)

-- with another journal of the session at its index, they are still the journals
pub journals_set : (logs : List Journal) (next new_next i : ℕ) (journal : Journal) → AreJournals logs next → AreSessions (set logs i journal)
    → IsBelow new_next journal → next ≤ new_next → new_next ≤ MAX_ID + 1 → AreJournals (set logs i journal) new_next
journals_set logs next new_next i journal journals of_sessions below more last = record {
  of_sessions = of_sessions;
  below = all_set (IsBelow new_next) logs i journal (all_below logs next new_next more journals.below) below;
  first_id = omega (arith, journals.first_id);
  last_id = last;
}
