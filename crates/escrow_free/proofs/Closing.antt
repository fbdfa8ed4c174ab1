-- What a close finds, and the output of a script.
use Rattle.std.proofs.Common.{◌≡◌, ℕ, zero, suc, ◌+◌, ◌<◌, Some, List, [], ◌∷◌, length, map, slice_get, refl, sym, ap, subst, ◌∙◌, arith}
use Rattle.std.specs.Prelude.{Option, None, IfSome}
use Rattle.std.specs.List.{AllByRecursion}
use Rattle.std.proofs.lemmas.List.{length-map}
use Rattle.sqlite_trees.specs.declared.store.Store.{Ghosts}
use Rattle.escrow_num.specs.declared.session.TheConstants.Session.{MAX_SHARED}
use Rattle.escrow_num.specs.Session.{IsShared}
use Rattle.escrow_transcript.specs.declared.entry.Entry.{Entry}
use Rattle.escrow_core.specs.Database.{Database}
use Rattle.escrow_shards.specs.Opening.{Opening}
use Rattle.escrow_shards.specs.Closed.{Closed, all_entries, opening_of}
use Rattle.escrow_shards.specs.Opened.{AreRead, IsRead, database_at}
use Rattle.escrow_shards.specs.Part.{Part}
use Rattle.escrow_shards.specs.Receipts.{receipts_of}
use Rattle.escrow_shards.specs.Pass.{Pass}
use Rattle.escrow_shards.specs.Shared.{Shared}
use Rattle.escrow_shards.specs.Whole.{AreWhole, HasItsReceipts, IsOfSessions}
use Rattle.escrow_script.specs.Line.{lines_of}
use Rattle.escrow_free.specs.Outboxes.{outbox_of, pass_of, answers_of, seat_after}
use Rattle.escrow_free.specs.FreeOutput.{taken_by, DoLines, ServesFree}
use Rattle.escrow_free.specs.Histories.{histories, histories_from, AreHistories}
use Rattle.escrow_free.specs.Phases.{IsServed}
use Rattle.escrow_free.specs.declared.outbox.Outbox.{Outbox}
use Rattle.escrow_free.proofs.Outboxes.{nothing_served}
use Rattle.escrow_sessions.proofs.Places.{some_same, none_some, at_below, below_at, all_at}
use Rattle.escrow_free.proofs.Planning.{within_outboxes}

map_at : {A B : Type 0} (f : A → B) (xs : List A) (i : ℕ) (x : A) → slice_get xs i ≡ Some x → slice_get (map f xs) i ≡ Some (f x)
map_at f [] i x at = absurd (none_some x at)
map_at f (y ∷ xs) zero x at = ap (λ z. Some (f z)) (some_same y x at)
map_at f (y ∷ xs) (suc i) x at = map_at f xs i x at

-- DATABASES

read_at : {S : Type 0} (g : Ghosts S) (olds news : List (Database S)) (i : ℕ) (old new : Database S) → AreRead g olds news → slice_get olds i ≡ Some old → slice_get news i ≡ Some new → IsRead g old new
read_at g [] news i old new all at there = absurd (none_some old at)
read_at g (o ∷ olds) [] i old new all at there = absurd all
read_at {S} g (o ∷ olds) (n ∷ news) zero old new all at there =
    subst (λ (x : Database S). IsRead g x new) (some_same o old at) (subst (λ (y : Database S). IsRead g o y) (some_same n new there) all.0)
read_at g (o ∷ olds) (n ∷ news) (suc i) old new all at there = read_at g olds news i old new all.1 at there

read_long : {S : Type 0} (g : Ghosts S) (olds news : List (Database S)) → AreRead g olds news → length news ≡ length olds
read_long g [] [] all = refl
read_long g [] (n ∷ news) all = absurd all
read_long g (o ∷ olds) [] all = absurd all
read_long g (o ∷ olds) (n ∷ news) all = ap suc (read_long g olds news all.1)

pub openings_long : {S : Type 0} (g : Ghosts S) (databases : List (Database S)) (openings : List (Opening S)) → AreRead g databases (map database_at openings) → length openings ≡ length databases
openings_long g databases openings read = sym (length-map openings database_at) ∙ read_long g databases (map database_at openings) read

closed_long : {S : Type 0} (closed : List (Closed S)) (openings : List (Opening S)) → map opening_of closed ≡ openings → length closed ≡ length openings
closed_long {S} closed openings same = sym (length-map closed opening_of) ∙ ap (length {A = Opening S}) same

pub are_histories : {S : Type 0} (g : Ghosts S) (databases : List (Database S)) (sharing : Shared S) (passes : List Pass) (parts : List (Part S)) (closed : List (Closed S))
    → AreRead g databases (map database_at sharing.openings) → AreWhole g sharing passes parts closed → AreHistories g databases parts closed
are_histories {S} g databases sharing passes parts closed read whole = record {
  count = closed_long closed sharing.openings whole.openings ∙ openings_long g databases sharing.openings read;
  each = λ place database c at there.
      record {
        began = read_at g databases (map database_at sharing.openings) place database (database_at c.opening) read at
            (map_at database_at sharing.openings place c.opening (ap (λ (os : List (Opening S)). slice_get os place) (sym whole.openings) ∙ map_at opening_of closed place c there));
        whole = whole.each place c there;
      };
}

-- HISTORIES

pub long_histories : {S : Type 0} (place : ℕ) (parts : List (Part S)) (closed : List (Closed S)) → length (histories_from place parts closed) ≡ length closed
long_histories place parts [] = refl
long_histories place parts (c ∷ closed) = ap suc (long_histories (place + 1) parts closed)

-- the history of the database at a place
pub record HistoryAt {S : Type 0} (place : ℕ) (parts : List (Part S)) (closed : List (Closed S)) (i : ℕ) (entries : List Entry) : Type 0 where
  pub closing : Closed S
  pub there : slice_get closed i ≡ Some closing
  pub same : entries ≡ all_entries (place + i) parts closing

pub history_at : {S : Type 0} (place : ℕ) (parts : List (Part S)) (closed : List (Closed S)) (i : ℕ) (entries : List Entry) → slice_get (histories_from place parts closed) i ≡ Some entries
    → HistoryAt place parts closed i entries
history_at place parts [] i entries at = absurd (none_some entries at)
history_at place parts (c ∷ closed) zero entries at = record {
  closing = c;
  there = refl;
  same = sym (some_same (all_entries place parts c) entries at) ∙ ap (λ n. all_entries n parts c) (let e : place ≡ place + 0 = omega arith in e);
}
history_at place parts (c ∷ closed) (suc i) entries at =
    let next = history_at (place + 1) parts closed i entries at in
    record {
      closing = next.closing;
      there = next.there;
      same = next.same ∙ ap (λ n. all_entries n parts next.closing) (let e : place + 1 + i ≡ place + suc i = omega arith in e);
    }

-- THE OUTPUT

pub serves_free : {S : Type 0} (g : Ghosts S) (sharing : Shared S) (parts : List (Part S)) (closed : List (Closed S)) (script : List ℕ) (outboxes : List Outbox) (old_bytes new_bytes : Option (List ℕ))
    → sharing.sessions ≡ MAX_SHARED → AreWhole g sharing (map pass_of outboxes) parts closed → IsServed (length sharing.openings) script outboxes old_bytes new_bytes
    → ServesFree script (histories parts closed) old_bytes new_bytes
serves_free {S} g sharing parts closed script outboxes old_bytes new_bytes sessions whole served = record {
  limit = served.limit;
  out = served.out;
  output = record {
    taken = served.taken;
    lines = subst (λ n. DoLines n [] (lines_of script) served.out served.taken) (sym count) served.lines;
    all = all;
    named = named;
  };
  appends = served.appends;
} where
  count : length (histories parts closed) ≡ length sharing.openings
  count = long_histories 0 parts closed ∙ closed_long closed sharing.openings whole.openings

  entries_of : (place : ℕ) (entries : List Entry) (history : HistoryAt 0 parts closed place entries) → all_entries place parts history.closing ≡ entries
  entries_of place entries history = ap (λ n. all_entries n parts history.closing) (let e : place ≡ 0 + place = omega arith in e) ∙ sym history.same

  named : (place : ℕ) (entries : List Entry) → slice_get (histories parts closed) place ≡ Some entries → AllByRecursion (IsOfSessions MAX_SHARED) entries
  named place entries at =
      let history = history_at 0 parts closed place entries at in
      subst (AllByRecursion (IsOfSessions MAX_SHARED)) (entries_of place entries history)
      (subst (λ n. AllByRecursion (IsOfSessions n) (all_entries place parts history.closing)) sessions (whole.asked place history.closing history.there))

  all : (place session : ℕ) (entries : List Entry) → slice_get (histories parts closed) place ≡ Some entries → IsShared session → taken_by place session served.taken ≡ receipts_of session entries
  all place session entries at is =
      let history = history_at 0 parts closed place entries at in
      let below : place < length sharing.openings = subst (λ n. place < n) count (below_at (histories parts closed) place entries at) in
      let outbox = at_below outboxes (outbox_of place session) (subst (λ n. outbox_of place session < n) (sym served.count) (within_outboxes (length sharing.openings) place session below is)) in
      let was = nothing_served (seat_after place session served.taken) (answers_of outbox.0) (outbox.0).pass (served.fits place session outbox.0 is outbox.1) in
      let found : HasItsReceipts parts closed (outbox.0).pass = all_at (HasItsReceipts parts closed) (map pass_of outboxes) (outbox_of place session) (outbox.0).pass whole.receipts (map_at pass_of outboxes (outbox_of place session) outbox.0 outbox.1) in
      let its : HasItsReceipts parts closed (seat_after place session served.taken) = subst (HasItsReceipts parts closed) was.same found in
      its history.closing history.there ∙ ap (receipts_of session) (entries_of place entries history)

-- the bytes of the script are known
pub serves_each : {S : Type 0} (g : Ghosts S) (sharing : Shared S) (parts : List (Part S)) (closed : List (Closed S)) (script : Option (List ℕ)) (outboxes : List Outbox) (passes : List Pass)
    (old_bytes new_bytes : Option (List ℕ)) → sharing.sessions ≡ MAX_SHARED → passes ≡ map pass_of outboxes → AreWhole g sharing passes parts closed
    → IfSome script (λ bytes. IsServed (length sharing.openings) bytes outboxes old_bytes new_bytes) → IfSome script (λ bytes. ServesFree bytes (histories parts closed) old_bytes new_bytes)
serves_each g sharing parts closed None outboxes passes old_bytes new_bytes sessions same whole served = tt
serves_each g sharing parts closed (Some bytes) outboxes passes old_bytes new_bytes sessions same whole served =
    serves_free g sharing parts closed bytes outboxes old_bytes new_bytes sessions (subst (λ (s : List Pass). AreWhole g sharing s parts closed) same whole) served
