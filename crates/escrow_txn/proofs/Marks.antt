-- The calls on savepoints do the same to a journal and to everything that is open.
use Rattle.std.specs.Prelude.{◌≡◌, ℕ, ◌==◌, true, false, not, nat_le, bytes_eq, Option, Some, None, option_map, unwrap_or, List, [], ◌∷◌, ◌++◌, length}
use Rattle.std.proofs.Common.{suc, refl, ap, ap₂, sym, ◌∙◌, subst, take, drop, set}
use Rattle.std.proofs.lemmas.Bool.{eqb-true, eq-eqb, and_left, and_parts, not_from_false}
use Rattle.escrow_num.specs.declared.reservation.Reservation.{Reservation}
use Rattle.escrow_num.specs.declared.reservation.Savepoint.{Savepoint}
use Rattle.escrow_num.proofs.Items.{find_has, all_filter}
use Rattle.escrow_journal.specs.Journal.{Journal, marked, later, cut_at, cut_journal}
use Rattle.escrow_journal.specs.Reservations.{own_savepoints}
use Rattle.escrow_journal.specs.Savepoints.{is_named, savepoint_of, without_savepoint, put_savepoint, through, is_after, after, not_after}
use Rattle.escrow_journal.proofs.Filters.{filter_all}
use Rattle.escrow_txn.specs.Joined.{by_id, opened}
use Rattle.escrow_journal.specs.Open.{Open, open_after_savepoint, released, returned_to, open_after_rollback_to}
use Rattle.escrow_txn.proofs.Parts.{put_savepoint_is, through_is, all_as, filter_part}
use Rattle.escrow_txn.proofs.Places.{IsAt}
use Rattle.escrow_txn.proofs.Sessions.{reservations_of, savepoints_of, open_with, are_others, reservations_split, reservations_now, savepoints_split, savepoints_now, savepoints_kept, only_own, others_kept, savepoint_of_is}

-- the journal's index, by the journal's own session
own_place : (session : ℕ) (journals : List Journal) (i : ℕ) (journal : Journal) → IsAt session journals i journal → IsAt journal.session journals i journal
own_place session journals i journal at = subst (λ n. IsAt n journals i journal) (sym at.number) at

-- savepoints of other sessions do not have a name of this session
other_unnamed : (session : ℕ) (name : List ℕ) (q : Savepoint) → (q.session == session) ≡ false → not (is_named session name q) ≡ true
other_unnamed session name q other = not_from_false (is_named session name q) (and_left (q.session == session) (bytes_eq q.name name) other)

saved_own : (next : ℕ) (name : List ℕ) (journals : List Journal) (i : ℕ) (journal : Journal) → IsAt journal.session journals i journal
    → opened (set journals i (marked name next journal)) next ≡ open_after_savepoint journal.session name (opened journals next)
saved_own next name journals i journal at =
    let rest = are_others journal.session journals i journal at in
    let session : ℕ = journal.session in
    let p : Savepoint = record { session = session; name = name; id = next } in
    let before : List Savepoint = savepoints_of (take i journals) in
    let behind : List Savepoint = savepoints_of (drop (suc i) journals) in
    let kept : List Savepoint = without_savepoint session name journal.savepoints in
    let without_it : without_savepoint session name (savepoints_of journals) ≡ before ++ (kept ++ behind) =
    savepoints_kept session journals i journal at (λ q. not (is_named session name q)) (other_unnamed session name) in
    let with_it : put_savepoint p (before ++ (kept ++ behind)) ≡ before ++ ((kept ++ p ∷ []) ++ behind) =
    put_savepoint_is p before kept behind rest.savepoints_below
    (all_filter (λ (q : Savepoint). q.session ≡ session) (λ q. not (is_named session name q)) journal.savepoints at.is_journal.savepoints_own) rest.savepoints_above in
    let reservations : by_id (reservations_of (set journals i (marked name next journal))) ≡ by_id (reservations_of journals) =
    ap by_id (reservations_split session journals i journal at (marked name next journal) ∙ sym (reservations_now session journals i journal at)) in
    let savepoints : savepoints_of (set journals i (marked name next journal)) ≡ put_savepoint p (without_savepoint session name (savepoints_of journals)) =
    savepoints_split session journals i journal at (marked name next journal) ∙ sym (ap (put_savepoint p) without_it ∙ with_it) in
    ap₂ (open_with next) reservations savepoints

-- a savepoint added to the journal is put at its place among all
pub saved_is : (session next : ℕ) (name : List ℕ) (journals : List Journal) (i : ℕ) (journal : Journal) → IsAt session journals i journal
    → opened (set journals i (marked name next journal)) next ≡ open_after_savepoint session name (opened journals next)
saved_is session next name journals i journal at =
    subst (λ n. opened (set journals i (marked name next journal)) next ≡ open_after_savepoint n name (opened journals next)) at.number
    (saved_own next name journals i journal (own_place session journals i journal at))

-- the session's savepoints with other names are those of its journal
pub other_names_is : (session : ℕ) (name : List ℕ) (journals : List Journal) (i : ℕ) (journal : Journal) → IsAt session journals i journal
    → own_savepoints session (without_savepoint session name (savepoints_of journals)) ≡ without_savepoint journal.session name journal.savepoints
other_names_is session name journals i journal at =
    let rest = are_others session journals i journal at in
    let kept : List Savepoint = without_savepoint session name journal.savepoints in
    ap (own_savepoints session) (savepoints_kept session journals i journal at (λ q. not (is_named session name q)) (other_unnamed session name))
    ∙ filter_part (λ q. q.session == session) (savepoints_of (take i journals)) kept (savepoints_of (drop (suc i) journals)) rest.savepoints_before rest.savepoints_behind
    ∙ filter_all (λ q. q.session == session) kept
    (all_as (λ (q : Savepoint). q.session ≡ journal.session) (λ q. (q.session == session) ≡ true) kept (λ q e. eq-eqb q.session session (e ∙ at.number))
    (all_filter (λ (q : Savepoint). q.session ≡ journal.session) (λ q. not (is_named session name q)) journal.savepoints at.is_journal.savepoints_own))
    ∙ ap (λ n. without_savepoint n name journal.savepoints) (sym at.number)

-- a savepoint that a name finds belongs to the session
found_session : (session : ℕ) (name : List ℕ) (ps : List Savepoint) (p : Savepoint) → savepoint_of session name ps ≡ Some p → p.session ≡ session
found_session session name ps p found =
    eqb-true p.session session (and_parts (p.session == session) (bytes_eq p.name name) (find_has (is_named session name) ps p found).1).0

-- reservations of other sessions are not after a session's savepoint
other_not_after : (session : ℕ) (p : Savepoint) → p.session ≡ session → (r : Reservation) → (r.session == session) ≡ false → is_after p r ≡ false
other_not_after session p own r other = and_left (r.session == p.session) (nat_le p.id r.id) (ap (λ n. r.session == n) own ∙ other)

-- the journal returned to one of its savepoints
returned_is : (session next : ℕ) (journals : List Journal) (i : ℕ) (journal : Journal) → IsAt journal.session journals i journal → (p : Savepoint) → p.session ≡ journal.session
    → opened (set journals i (cut_at journal p)) next ≡ returned_to (opened journals next) p
returned_is _ next journals i journal at p own =
    let session : ℕ = journal.session in
    let rest = are_others session journals i journal at in
    let reservations : by_id (reservations_of (set journals i (cut_at journal p))) ≡ not_after p (by_id (reservations_of journals)) =
    others_kept session journals i journal at (λ r. not (is_after p r)) (λ r other. not_from_false (is_after p r) (other_not_after session p own r other)) (cut_at journal p) refl in
    let through_here : through session p.name (savepoints_of journals) ≡ savepoints_of (set journals i (cut_at journal p)) =
    ap (through session p.name) (savepoints_now session journals i journal at)
    ∙ through_is session p.name (savepoints_of (take i journals)) journal.savepoints (savepoints_of (drop (suc i) journals)) rest.savepoints_before rest.savepoints_behind
    ∙ sym (savepoints_split session journals i journal at (cut_at journal p)) in
    let savepoints : savepoints_of (set journals i (cut_at journal p)) ≡ through p.session p.name (savepoints_of journals) =
    sym (ap (λ n. through n p.name (savepoints_of journals)) own ∙ through_here) in
    ap₂ (open_with next) reservations savepoints

cut_found : (next : ℕ) (name : List ℕ) (journals : List Journal) (i : ℕ) (journal : Journal) → IsAt journal.session journals i journal
    → (o : Option Savepoint) → savepoint_of journal.session name journal.savepoints ≡ o
    → opened (set journals i (unwrap_or (option_map (cut_at journal) o) journal)) next ≡ unwrap_or (option_map (returned_to (opened journals next)) o) (opened journals next)
cut_found next name journals i journal at None found = ap (λ ls. opened ls next) at.same
cut_found next name journals i journal at (Some p) found = returned_is journal.session next journals i journal at p (found_session journal.session name journal.savepoints p found)

-- if the journal returns to a savepoint, so does everything that is open
pub cut_is : (session next : ℕ) (name : List ℕ) (journals : List Journal) (i : ℕ) (journal : Journal) → IsAt session journals i journal
    → opened (set journals i (cut_journal name journal)) next ≡ open_after_rollback_to session name (opened journals next)
cut_is session next name journals i journal at =
    let here = own_place session journals i journal at in
    let o : Open = opened journals next in
    cut_found next name journals i journal here (savepoint_of journal.session name journal.savepoints) refl
    ∙ ap (λ found. unwrap_or (option_map (returned_to o) found) o)
    (ap (λ n. savepoint_of n name journal.savepoints) at.number ∙ sym (savepoint_of_is session name journals i journal at))

later_found : (session : ℕ) (name : List ℕ) (journals : List Journal) (i : ℕ) (journal : Journal) → IsAt session journals i journal
    → (o : Option Savepoint) → savepoint_of session name journal.savepoints ≡ o
    → option_map (λ p. after p journal.reservations) o ≡ option_map (λ p. after p (by_id (reservations_of journals))) o
later_found session name journals i journal at None found = refl
later_found session name journals i journal at (Some p) found =
    let own = found_session session name journal.savepoints p found in
    ap (λ rs. Some rs) (sym (only_own session journals i journal at (is_after p) (other_not_after session p own)))

-- the same reservations come after a savepoint of the session, in its journal and among all
pub later_is : (session next : ℕ) (name : List ℕ) (journals : List Journal) (i : ℕ) (journal : Journal) → IsAt session journals i journal
    → later name journal ≡ option_map (λ p. after p (opened journals next).reservations) (savepoint_of session name (opened journals next).savepoints)
later_is session next name journals i journal at =
    ap (λ n. option_map (λ p. after p journal.reservations) (savepoint_of n name journal.savepoints)) at.number
    ∙ later_found session name journals i journal at (savepoint_of session name journal.savepoints) refl
    ∙ ap (option_map (λ p. after p (by_id (reservations_of journals)))) (sym (savepoint_of_is session name journals i journal at))

mapped_twice : {A B C : Type 0} (f : A → B) (g : B → C) (o : Option A) → option_map g (option_map f o) ≡ option_map (λ x. g (f x)) o
mapped_twice f g None = refl
mapped_twice f g (Some x) = refl

-- their number is the same too
pub released_is : (session next : ℕ) (name : List ℕ) (journals : List Journal) (i : ℕ) (journal : Journal) → IsAt session journals i journal
    → option_map length (later name journal) ≡ released session name (opened journals next)
released_is session next name journals i journal at =
    ap (option_map length) (later_is session next name journals i journal at)
    ∙ mapped_twice (λ (p : Savepoint). after p (by_id (reservations_of journals))) (λ (rs : List Reservation). length rs) (savepoint_of session name (savepoints_of journals))
