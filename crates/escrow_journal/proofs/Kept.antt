-- What each call keeps of a journal.
use Rattle.std.specs.Prelude.{◌≡◌, ℕ, ◌<◌, ◌≤◌, List, [], ◌∷◌, ◌++◌, length, filter, find, take, Option, IsSome, IsTrue, not}
use Rattle.std.specs.List.{AllByRecursion}
use Rattle.std.proofs.Common.{zero, suc, inl, inr, refl, sym, ap, ◌∙◌, subst, arith, length-append, length-take}
use Rattle.std.proofs.lemmas.Bool.{leb-true, le-leb, cases_lt}
use Rattle.escrow_num.specs.Ascending.{IsAscending}
use Rattle.escrow_num.specs.declared.reservation.Reservation.{Reservation}
use Rattle.escrow_num.specs.declared.reservation.Savepoint.{Savepoint}
use Rattle.escrow_num.proofs.Items.{all_has, all_filter}
use Rattle.escrow_num.proofs.Ascending.{ascending_push}
use Rattle.escrow_journal.specs.Journal.{Journal, IsJournal, is_full_beside, pushed, marked}
use Rattle.escrow_journal.specs.Reservations.{reservation_before}
use Rattle.escrow_journal.specs.Savepoints.{is_named, savepoint_of, without_savepoint}
use Rattle.escrow_journal.specs.declared.journal.TheConstants.Journal.{MAX_RESERVATIONS, MAX_SAVEPOINTS}
use Rattle.escrow_journal.proofs.Filters.{find_same, fewer_others}
use Rattle.escrow_journal.proofs.Named.{has_name, named_is, without_is}

-- what holds for all items and for one more
pub all_push : {X : Type 0} (P : X → Type 0) (xs : List X) (y : X) → AllByRecursion P xs → P y → AllByRecursion P (xs ++ y ∷ [])
all_push P [] y all last = (last, tt)
all_push P (x ∷ xs) y all last = (all.0, all_push P xs y all.1 last)

-- what holds for all items holds for the first ones
all_take : {X : Type 0} (P : X → Type 0) (n : ℕ) (xs : List X) → AllByRecursion P xs → AllByRecursion P (take n xs)
all_take P zero xs all = tt
all_take P (suc n) [] all = tt
all_take P (suc n) (x ∷ xs) all = (all.0, all_take P n xs all.1)

-- the first items of an ascending list are ascending
ascending_take : (n : ℕ) (rs : List Reservation) → IsAscending reservation_before rs → IsAscending reservation_before (take n rs)
ascending_take zero rs rising = tt
ascending_take (suc n) [] rising = tt
ascending_take (suc n) (r ∷ rs) rising = (all_take (λ later. IsTrue (reservation_before r later)) n rs rising.0, ascending_take n rs rising.1)

-- one more reservation
pub push_kept : (r : Reservation) (log : Journal) → IsJournal log → length log.reservations < MAX_RESERVATIONS → r.session ≡ log.session
    → AllByRecursion (λ earlier. IsTrue (reservation_before earlier r)) log.reservations → IsJournal (pushed r log)
push_kept r log valid room own above = record {
  session = valid.session;
  reservations_own = all_push (λ (x : Reservation). x.session ≡ log.session) log.reservations r valid.reservations_own own;
  reservation_order = ascending_push reservation_before log.reservations r valid.reservation_order (λ x h. all_has (λ earlier. IsTrue (reservation_before earlier r)) log.reservations above x h);
  few_reservations = omega (arith, length-append log.reservations (r ∷ []));
  savepoints_own = valid.savepoints_own;
  few_savepoints = valid.few_savepoints;
}

-- the number of savepoints with other names
beside_is : (name : List ℕ) (log : Journal) (n : ℕ) → IsJournal log → n ≡ length (filter (λ p. not (has_name name p)) log.savepoints)
    → length (without_savepoint log.session name log.savepoints) ≡ n
beside_is name log n valid count = ap length (without_is log.session name log.savepoints valid.savepoints_own) ∙ sym count

pub full_beside : (name : List ℕ) (log : Journal) (n : ℕ) → IsJournal log → n ≡ length (filter (λ p. not (has_name name p)) log.savepoints) → MAX_SAVEPOINTS ≤ n
    → IsTrue (is_full_beside name log)
full_beside name log n valid count full =
    let beside = beside_is name log n valid count in
    le-leb MAX_SAVEPOINTS (length (without_savepoint log.session name log.savepoints)) (omega arith)

pub room_beside : (name : List ℕ) (log : Journal) (n : ℕ) → IsJournal log → n ≡ length (filter (λ p. not (has_name name p)) log.savepoints) → n < MAX_SAVEPOINTS
    → IsTrue (is_full_beside name log) → ⊥
room_beside name log n valid count room full =
    let beside = beside_is name log n valid count in
    let most = leb-true MAX_SAVEPOINTS (length (without_savepoint log.session name log.savepoints)) full in
    omega arith

-- if a savepoint has the name, there is room for a new one of that name
pub named_found : (name : List ℕ) (log : Journal) → IsJournal log → IsSome (savepoint_of log.session name log.savepoints) → IsSome (find (has_name name) log.savepoints)
named_found name log valid here =
    let same = find_same (is_named log.session name) (has_name name) log.savepoints (named_is log.session name log.savepoints valid.savepoints_own) in
    subst (λ (o : Option Savepoint). IsSome o) same here

pub room_again : (name : List ℕ) (log : Journal) (n : ℕ) → IsJournal log → n ≡ length (filter (λ p. not (has_name name p)) log.savepoints)
    → IsSome (savepoint_of log.session name log.savepoints) → n < MAX_SAVEPOINTS
room_again name log n valid count here =
    let fewer = fewer_others (has_name name) log.savepoints (named_found name log valid here) in
    let few = valid.few_savepoints in
    omega arith

-- one more savepoint, which replaces one of the same name
module _ (name : List ℕ) (id : ℕ) (log : Journal) (valid : IsJournal log) where
  abbrev pub new : Savepoint
  new = record { session = log.session; name = name; id = id }

  pub marked_is : (kept ps : List Savepoint) → kept ≡ filter (λ p. not (has_name name p)) log.savepoints → ps ≡ kept ++ new ∷ []
      → record log { savepoints = ps } ≡ marked name id log
  marked_is kept ps without added =
      ap (λ qs. record log { savepoints = qs })
      (added ∙ ap (λ qs. qs ++ new ∷ []) (without ∙ sym (without_is log.session name log.savepoints valid.savepoints_own)))

  pub mark_kept : (IsTrue (is_full_beside name log) → ⊥) → IsJournal (marked name id log)
  mark_kept room =
      let others = without_savepoint log.session name log.savepoints in
      let own = λ (q : Savepoint). q.session ≡ log.session in
      let few : length others < MAX_SAVEPOINTS = elim (cases_lt (length others) MAX_SAVEPOINTS) [
        | inl below ↦ below
        | inr full ↦ absurd (room (le-leb MAX_SAVEPOINTS (length others) full))
      ] in
      record {
        session = valid.session;
        reservations_own = valid.reservations_own;
        reservation_order = valid.reservation_order;
        few_reservations = valid.few_reservations;
        savepoints_own = all_push own others new (all_filter own (λ q. not (is_named log.session name q)) log.savepoints valid.savepoints_own) refl;
        few_savepoints = omega (arith, length-append others (new ∷ []));
      }

-- the first reservations and the first savepoints
pub cut_kept : (n m : ℕ) (log : Journal) → IsJournal log → IsJournal (record log { reservations = take n log.reservations; savepoints = take m log.savepoints })
cut_kept n m log valid = record {
  session = valid.session;
  reservations_own = all_take (λ (r : Reservation). r.session ≡ log.session) n log.reservations valid.reservations_own;
  reservation_order = ascending_take n log.reservations valid.reservation_order;
  few_reservations = let short = length-take n log.reservations in let few = valid.few_reservations in omega arith;
  savepoints_own = all_take (λ (p : Savepoint). p.session ≡ log.session) m log.savepoints valid.savepoints_own;
  few_savepoints = let short = length-take m log.savepoints in let few = valid.few_savepoints in omega arith;
}
