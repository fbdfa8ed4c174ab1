-- A session's share of everything that is open is what its journal holds; the calls do the same
-- to the journal and to everything that is open.
use Rattle.std.specs.Prelude.{◌≡◌, ℕ, ◌+◌, ℤ, ◌==◌, Bool, true, false, not, nat_lt, bytes_eq, Option, List, [], ◌∷◌, ◌++◌, filter, IsTrue}
use Rattle.std.specs.List.{AllByRecursion, flat_map}
use Rattle.std.proofs.Common.{suc, ap, ap₂, sym, ◌∙◌, subst, take, drop, set, arith}
use Rattle.std.proofs.lemmas.Bool.{ltb-true, ne_eqb, eq-eqb, and_left, not_from_true, not_from_false}
use Rattle.std.proofs.lemmas.List.Concat.{flat_map-append}
use Rattle.std.proofs.lemmas.List.{append_assoc}
use Rattle.escrow_num.specs.declared.reservation.Reservation.{Reservation}
use Rattle.escrow_num.specs.declared.reservation.Savepoint.{Savepoint}
use Rattle.escrow_num.specs.declared.value.RowName.{RowName}
use Rattle.escrow_num.proofs.Ascending.{ascending_filter}
use Rattle.escrow_journal.specs.Journal.{Journal, IsJournal, empty_journal, pushed}
use Rattle.escrow_journal.specs.Reservations.{reservation_before, own, others, own_savepoints, other_savepoints}
use Rattle.escrow_journal.specs.Savepoints.{is_named, savepoint_of}
use Rattle.escrow_journal.proofs.Filters.{filter_all}
use Rattle.escrow_txn.specs.Joined.{by_id, opened, IsBelow}
use Rattle.escrow_journal.specs.Open.{Open, open_after_grant, open_after_end}
use Rattle.escrow_txn.proofs.ById.{by_id_rising, by_id_last, filter_by_id}
use Rattle.escrow_txn.proofs.Parts.{filter_none, filter_part, filter_beside, find_part, all_as}
use Rattle.escrow_txn.proofs.Places.{IsAt, all_append, all_flat, all_take, all_drop}

abbrev pub reservations_of : List Journal → List Reservation
reservations_of journals = flat_map (λ journal. journal.reservations) journals

abbrev pub savepoints_of : List Journal → List Savepoint
savepoints_of journals = flat_map (λ journal. journal.savepoints) journals

-- everything held, split at an index: before it, there, and after it
pub reservations_split : (session : ℕ) (journals : List Journal) (i : ℕ) (journal : Journal) → IsAt session journals i journal → (y : Journal)
    → reservations_of (set journals i y) ≡ reservations_of (take i journals) ++ (y.reservations ++ reservations_of (drop (suc i) journals))
reservations_split session journals i journal at y =
    ap reservations_of (at.split y) ∙ flat_map-append (λ (l : Journal). l.reservations) (take i journals) (y ∷ drop (suc i) journals)

pub savepoints_split : (session : ℕ) (journals : List Journal) (i : ℕ) (journal : Journal) → IsAt session journals i journal → (y : Journal)
    → savepoints_of (set journals i y) ≡ savepoints_of (take i journals) ++ (y.savepoints ++ savepoints_of (drop (suc i) journals))
savepoints_split session journals i journal at y =
    ap savepoints_of (at.split y) ∙ flat_map-append (λ (l : Journal). l.savepoints) (take i journals) (y ∷ drop (suc i) journals)

-- what holds for the session of each journal holds for the session of everything that it holds
held_sessions : {X : Type 0} (held : Journal → List X) (session_of : X → ℕ) (own : (journal : Journal) → IsJournal journal → AllByRecursion (λ x. session_of x ≡ journal.session) (held journal))
    (P : ℕ → Type 0) (journals : List Journal) → AllByRecursion IsJournal journals → AllByRecursion (λ l. P l.session) journals
    → AllByRecursion (λ x. P (session_of x)) (flat_map held journals)
held_sessions held session_of own P [] are_journals all = tt
held_sessions held session_of own P (journal ∷ journals) are_journals all =
    all_append (λ x. P (session_of x)) (held journal) (flat_map held journals)
    (all_as (λ x. session_of x ≡ journal.session) (λ x. P (session_of x)) (held journal) (λ x e. subst P (sym e) all.0) (own journal are_journals.0))
    (held_sessions held session_of own P journals are_journals.1 all.1)

sessions_of : (P : ℕ → Type 0) (journals : List Journal) → AllByRecursion IsJournal journals → AllByRecursion (λ l. P l.session) journals
    → AllByRecursion (λ r. P r.session) (reservations_of journals)
sessions_of P journals = held_sessions (λ (l : Journal). l.reservations) (λ (r : Reservation). r.session) (λ journal is. is.reservations_own) P journals

savepoint_sessions_of : (P : ℕ → Type 0) (journals : List Journal) → AllByRecursion IsJournal journals → AllByRecursion (λ l. P l.session) journals
    → AllByRecursion (λ p. P p.session) (savepoints_of journals)
savepoint_sessions_of P journals = held_sessions (λ (l : Journal). l.savepoints) (λ (p : Savepoint). p.session) (λ journal is. is.savepoints_own) P journals

below_is_other : (n session : ℕ) → IsTrue (nat_lt n session) → (n == session) ≡ false
below_is_other n session less = ne_eqb n session (λ e. omega (arith, ltb-true n session less))

above_is_other : (n session : ℕ) → IsTrue (nat_lt session n) → (n == session) ≡ false
above_is_other n session less = ne_eqb n session (λ e. omega (arith, ltb-true session n less))

-- the journals beside a session's own hold only items of other sessions
pub record AreOthers (session : ℕ) (journals : List Journal) (i : ℕ) : Type 0 where
  pub before : AllByRecursion (λ r. (r.session == session) ≡ false) (reservations_of (take i journals))
  pub behind : AllByRecursion (λ r. (r.session == session) ≡ false) (reservations_of (drop (suc i) journals))
  pub savepoints_below : AllByRecursion (λ p. IsTrue (nat_lt p.session session)) (savepoints_of (take i journals))
  pub savepoints_above : AllByRecursion (λ p. IsTrue (nat_lt session p.session)) (savepoints_of (drop (suc i) journals))
  pub savepoints_before : AllByRecursion (λ p. (p.session == session) ≡ false) (savepoints_of (take i journals))
  pub savepoints_behind : AllByRecursion (λ p. (p.session == session) ≡ false) (savepoints_of (drop (suc i) journals))

pub are_others : (session : ℕ) (journals : List Journal) (i : ℕ) (journal : Journal) → IsAt session journals i journal → AreOthers session journals i
are_others session journals i journal at =
    let Other : ℕ → Type 0 = λ n. (n == session) ≡ false in
    let before : AllByRecursion (λ l. Other l.session) (take i journals) =
    all_as (λ (l : Journal). IsTrue (nat_lt l.session session)) (λ l. Other l.session) (take i journals) (λ l. below_is_other l.session session) at.below in
    let behind : AllByRecursion (λ l. Other l.session) (drop (suc i) journals) =
    all_as (λ (l : Journal). IsTrue (nat_lt session l.session)) (λ l. Other l.session) (drop (suc i) journals) (λ l. above_is_other l.session session) at.above in
    record {
      before = sessions_of Other (take i journals) at.before before;
      behind = sessions_of Other (drop (suc i) journals) at.behind behind;
      savepoints_below = savepoint_sessions_of (λ n. IsTrue (nat_lt n session)) (take i journals) at.before at.below;
      savepoints_above = savepoint_sessions_of (λ n. IsTrue (nat_lt session n)) (drop (suc i) journals) at.behind at.above;
      savepoints_before = savepoint_sessions_of Other (take i journals) at.before before;
      savepoints_behind = savepoint_sessions_of Other (drop (suc i) journals) at.behind behind;
    }

-- everything held, split at the index of a journal
pub reservations_now : (session : ℕ) (journals : List Journal) (i : ℕ) (journal : Journal) → IsAt session journals i journal
    → reservations_of journals ≡ reservations_of (take i journals) ++ (journal.reservations ++ reservations_of (drop (suc i) journals))
reservations_now session journals i journal at = ap reservations_of (sym at.same) ∙ reservations_split session journals i journal at journal

pub savepoints_now : (session : ℕ) (journals : List Journal) (i : ℕ) (journal : Journal) → IsAt session journals i journal
    → savepoints_of journals ≡ savepoints_of (take i journals) ++ (journal.savepoints ++ savepoints_of (drop (suc i) journals))
savepoints_now session journals i journal at = ap savepoints_of (sym at.same) ∙ savepoints_split session journals i journal at journal

-- if no other session's reservation passes a test, the filter keeps the journal's own, in their order
pub only_own : (session : ℕ) (journals : List Journal) (i : ℕ) (journal : Journal) → IsAt session journals i journal
    → (p : Reservation → Bool) → ((r : Reservation) → (r.session == session) ≡ false → p r ≡ false)
    → filter p (by_id (reservations_of journals)) ≡ filter p journal.reservations
only_own session journals i journal at p fails =
    let rest = are_others session journals i journal at in
    let fails_all : (rs : List Reservation) → AllByRecursion (λ r. (r.session == session) ≡ false) rs → AllByRecursion (λ r. p r ≡ false) rs =
    λ rs. all_as (λ (r : Reservation). (r.session == session) ≡ false) (λ r. p r ≡ false) rs fails in
    filter_by_id p (reservations_of journals)
    ∙ ap (λ rs. by_id (filter p rs)) (reservations_now session journals i journal at)
    ∙ ap by_id (filter_part p (reservations_of (take i journals)) journal.reservations (reservations_of (drop (suc i) journals))
    (fails_all (reservations_of (take i journals)) rest.before) (fails_all (reservations_of (drop (suc i) journals)) rest.behind))
    ∙ by_id_rising (filter p journal.reservations) (ascending_filter reservation_before p journal.reservations at.is_journal.reservation_order)

-- if all other sessions' reservations pass a test, the filter keeps all of them, and of the journal's own
-- those that pass
pub others_kept : (session : ℕ) (journals : List Journal) (i : ℕ) (journal : Journal) → IsAt session journals i journal
    → (p : Reservation → Bool) → ((r : Reservation) → (r.session == session) ≡ false → p r ≡ true)
    → (y : Journal) → y.reservations ≡ filter p journal.reservations → by_id (reservations_of (set journals i y)) ≡ filter p (by_id (reservations_of journals))
others_kept session journals i journal at p passes y kept =
    let rest = are_others session journals i journal at in
    let pass_all : (rs : List Reservation) → AllByRecursion (λ r. (r.session == session) ≡ false) rs → AllByRecursion (λ r. p r ≡ true) rs =
    λ rs. all_as (λ (r : Reservation). (r.session == session) ≡ false) (λ r. p r ≡ true) rs passes in
    let before : List Reservation = reservations_of (take i journals) in
    let behind : List Reservation = reservations_of (drop (suc i) journals) in
    ap by_id (reservations_split session journals i journal at y)
    ∙ ap (λ rs. by_id (before ++ (rs ++ behind))) kept
    ∙ sym (
    filter_by_id p (reservations_of journals)
    ∙ ap (λ rs. by_id (filter p rs)) (reservations_now session journals i journal at)
    ∙ ap by_id (filter_beside p before journal.reservations behind (pass_all before rest.before) (pass_all behind rest.behind)))

pub savepoints_kept : (session : ℕ) (journals : List Journal) (i : ℕ) (journal : Journal) → IsAt session journals i journal
    → (p : Savepoint → Bool) → ((q : Savepoint) → (q.session == session) ≡ false → p q ≡ true)
    → filter p (savepoints_of journals) ≡ savepoints_of (take i journals) ++ (filter p journal.savepoints ++ savepoints_of (drop (suc i) journals))
savepoints_kept session journals i journal at p passes =
    let rest = are_others session journals i journal at in
    let pass_all : (ps : List Savepoint) → AllByRecursion (λ q. (q.session == session) ≡ false) ps → AllByRecursion (λ q. p q ≡ true) ps =
    λ ps. all_as (λ (q : Savepoint). (q.session == session) ≡ false) (λ q. p q ≡ true) ps passes in
    let before : List Savepoint = savepoints_of (take i journals) in
    let behind : List Savepoint = savepoints_of (drop (suc i) journals) in
    ap (filter p) (savepoints_now session journals i journal at)
    ∙ filter_beside p before journal.savepoints behind (pass_all before rest.savepoints_before) (pass_all behind rest.savepoints_behind)

-- a session's own reservations are those of its journal
pub own_is : (session : ℕ) (journals : List Journal) (i : ℕ) (journal : Journal) → IsAt session journals i journal → own session (by_id (reservations_of journals)) ≡ journal.reservations
own_is session journals i journal at =
    only_own session journals i journal at (λ r. r.session == session) (λ r other. other)
    ∙ filter_all (λ r. r.session == session) journal.reservations
    (all_as (λ (r : Reservation). r.session ≡ journal.session) (λ r. (r.session == session) ≡ true) journal.reservations
    (λ r e. eq-eqb r.session session (e ∙ at.number)) at.is_journal.reservations_own)

-- a session's savepoints are those of its journal
pub own_savepoints_is : (session : ℕ) (journals : List Journal) (i : ℕ) (journal : Journal) → IsAt session journals i journal → own_savepoints session (savepoints_of journals) ≡ journal.savepoints
own_savepoints_is session journals i journal at =
    let rest = are_others session journals i journal at in
    ap (own_savepoints session) (savepoints_now session journals i journal at)
    ∙ filter_part (λ q. q.session == session) (savepoints_of (take i journals)) journal.savepoints (savepoints_of (drop (suc i) journals)) rest.savepoints_before rest.savepoints_behind
    ∙ filter_all (λ q. q.session == session) journal.savepoints
    (all_as (λ (q : Savepoint). q.session ≡ journal.session) (λ q. (q.session == session) ≡ true) journal.savepoints
    (λ q e. eq-eqb q.session session (e ∙ at.number)) at.is_journal.savepoints_own)

-- a name finds the savepoint of the journal
pub savepoint_of_is : (session : ℕ) (name : List ℕ) (journals : List Journal) (i : ℕ) (journal : Journal) → IsAt session journals i journal
    → savepoint_of session name (savepoints_of journals) ≡ savepoint_of session name journal.savepoints
savepoint_of_is session name journals i journal at =
    let rest = are_others session journals i journal at in
    let unnamed : (ps : List Savepoint) → AllByRecursion (λ q. (q.session == session) ≡ false) ps → AllByRecursion (λ q. is_named session name q ≡ false) ps =
    λ ps. all_as (λ (q : Savepoint). (q.session == session) ≡ false) (λ q. is_named session name q ≡ false) ps
    (λ q other. and_left (q.session == session) (bytes_eq q.name name) other) in
    ap (savepoint_of session name) (savepoints_now session journals i journal at)
    ∙ find_part (is_named session name) (savepoints_of (take i journals)) journal.savepoints (savepoints_of (drop (suc i) journals))
    (unnamed (savepoints_of (take i journals)) rest.savepoints_before) (unnamed (savepoints_of (drop (suc i) journals)) rest.savepoints_behind)

abbrev pub open_with : ℕ → List Reservation → List Savepoint → Open
open_with next reservations savepoints = record { reservations = reservations; savepoints = savepoints; next_id = next }

-- if the journal is emptied, the session's transaction ends
pub ended_is : (session next : ℕ) (journals : List Journal) (i : ℕ) (journal : Journal) → IsAt session journals i journal
    → opened (set journals i (empty_journal journal.session)) next ≡ open_after_end session (opened journals next)
ended_is session next journals i journal at =
    let is_own : (n : ℕ) → n ≡ journal.session → not (n == session) ≡ false = λ n e. not_from_true (n == session) (eq-eqb n session (e ∙ at.number)) in
    let reservations : by_id (reservations_of (set journals i (empty_journal journal.session))) ≡ others session (by_id (reservations_of journals)) =
    others_kept session journals i journal at (λ r. not (r.session == session)) (λ r other. not_from_false (r.session == session) other) (empty_journal journal.session)
    (sym (filter_none (λ r. not (r.session == session)) journal.reservations
    (all_as (λ (r : Reservation). r.session ≡ journal.session) (λ r. not (r.session == session) ≡ false) journal.reservations (λ r. is_own r.session) at.is_journal.reservations_own))) in
    let none : other_savepoints session journal.savepoints ≡ [] =
    filter_none (λ q. not (q.session == session)) journal.savepoints
    (all_as (λ (q : Savepoint). q.session ≡ journal.session) (λ q. not (q.session == session) ≡ false) journal.savepoints (λ q. is_own q.session) at.is_journal.savepoints_own) in
    let savepoints : savepoints_of (set journals i (empty_journal journal.session)) ≡ other_savepoints session (savepoints_of journals) =
    savepoints_split session journals i journal at (empty_journal journal.session)
    ∙ sym (savepoints_kept session journals i journal at (λ q. not (q.session == session)) (λ q other. not_from_false (q.session == session) other)
    ∙ ap (λ ps. savepoints_of (take i journals) ++ (ps ++ savepoints_of (drop (suc i) journals))) none) in
    ap₂ (open_with next) reservations savepoints

-- a reservation appended to the journal, with the next id, is the last of all
pub granted_is : (session next : ℕ) (row : RowName) (changes : List (Option ℤ)) (journals : List Journal) (i : ℕ) (journal : Journal) → IsAt session journals i journal
    → AllByRecursion (IsBelow next) journals → IsBelow next journal
    → opened (set journals i (pushed (record { id = next; session = session; row = row; changes = changes }) journal)) (next + 1)
    ≡ open_after_grant session row changes (opened journals next)
granted_is session next row changes journals i journal at below below_here =
    let r : Reservation = record { id = next; session = session; row = row; changes = changes } in
    let before : List Reservation = reservations_of (take i journals) in
    let behind : List Reservation = reservations_of (drop (suc i) journals) in
    let lower : Reservation → Type 0 = λ x. IsTrue (nat_lt x.id next) in
    let all_lower : (ls : List Journal) → AllByRecursion (IsBelow next) ls → AllByRecursion lower (reservations_of ls) =
    λ ls. all_flat (IsBelow next) lower (λ (l : Journal). l.reservations) ls (λ l h. h) in
    let last : by_id ((before ++ journal.reservations) ++ r ∷ behind) ≡ by_id ((before ++ journal.reservations) ++ behind) ++ r ∷ [] =
    by_id_last r (before ++ journal.reservations) behind
    (all_append lower before journal.reservations (all_lower (take i journals) (all_take (IsBelow next) i journals below)) below_here)
    (all_lower (drop (suc i) journals) (all_drop (IsBelow next) (suc i) journals below)) in
    let with_it : before ++ ((journal.reservations ++ r ∷ []) ++ behind) ≡ (before ++ journal.reservations) ++ r ∷ behind = simp append_assoc in
    let without_it : reservations_of journals ≡ (before ++ journal.reservations) ++ behind =
    reservations_now session journals i journal at ∙ sym (append_assoc before journal.reservations behind) in
    let reservations : by_id (reservations_of (set journals i (pushed r journal))) ≡ by_id (reservations_of journals) ++ r ∷ [] =
    ap by_id (reservations_split session journals i journal at (pushed r journal) ∙ with_it) ∙ last ∙ ap (λ rs. by_id rs ++ r ∷ []) (sym without_it) in
    let savepoints : savepoints_of (set journals i (pushed r journal)) ≡ savepoints_of journals =
    savepoints_split session journals i journal at (pushed r journal) ∙ sym (savepoints_now session journals i journal at) in
    ap₂ (open_with (next + 1)) reservations savepoints
