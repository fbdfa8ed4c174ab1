-- Outboxes at the beginning, and while phases are served.
use Rattle.std.proofs.Common.{◌≡◌, ℕ, zero, suc, ◌+◌, ◌-◌, ◌*◌, ◌/◌, ◌%◌, ◌<◌, ◌≤◌, Some, List, [], ◌∷◌, length, replicate, slice_get, refl, sym, ap, subst, ◌∙◌, arith}
use Rattle.std.specs.List.{AllByRecursion, AllZip}
use Rattle.std.proofs.lemmas.List.{length-append}
use Rattle.escrow_num.specs.Session.{IsShared}
use Rattle.escrow_num.specs.declared.session.TheConstants.Session.{MAX_SHARED}
use Rattle.escrow_statement.specs.declared.statement.Request.{Request}
use Rattle.escrow_shards.specs.Pass.{Pass, new_pass, new_passes, new_passes_of}
use Rattle.escrow_shards.specs.Shared.{Shared, HasPass}
use Rattle.escrow_shards.proofs.NewPasses.{passes_have_places}
use Rattle.escrow_sessions.specs.Fed.{of}
use Rattle.escrow_sessions.specs.Serving.{Serves}
use Rattle.escrow_sessions.specs.declared.feed.Given.{Given}
use Rattle.escrow_stats.specs.Tally.{tally_of}
use Rattle.escrow_stats.specs.declared.tally.Tally.{Tally}
use Rattle.escrow_free.specs.Outboxes.{outbox_of, answers_of, IsNewOutbox, HasOutbox, HavePasses, AreServed, AreTotals, seat_after, Fits}
use Rattle.escrow_free.specs.FreeOutput.{Taken}
use Rattle.escrow_free.specs.declared.outbox.Outbox.{Outbox}
use Rattle.escrow_sessions.proofs.Places.{some_same, none_some, at_below, below_at, beside, all_of_each, zip_long}

-- no request was answered
pub record Nothing (seat : Pass) (gs : List Given) (new : Pass) : Type 0 where
  pub none : gs ≡ []
  pub same : new ≡ seat

pub nothing_served : (seat : Pass) (gs : List Given) (new : Pass) → Serves seat [] gs new → Nothing seat gs new
nothing_served seat [] new h = record { none = refl; same = h }
nothing_served seat (g ∷ gs) new h = absurd h

-- a phase was served
pub fits_served : (items : List (ℕ × Request)) (taken : List Taken) (old mid : List Outbox) → AreServed old items mid → Fits [] taken old → Fits items taken mid
fits_served items taken old mid served fits = λ place session outbox is at.
    let before = at_below old (outbox_of place session) (subst (λ n. outbox_of place session < n) served.count (below_at mid (outbox_of place session) outbox at)) in
    let was = nothing_served (seat_after place session taken) (answers_of before.0) (before.0).pass (fits place session before.0 is before.1) in
    subst (λ (seat : Pass). Serves seat (of (outbox_of place session) items) (answers_of outbox) outbox.pass) was.same (served.each (outbox_of place session) before.0 outbox before.1 at was.none)

-- no outbox was asked: nothing is served
pub none_served : (outboxes : List Outbox) (items : List (ℕ × Request)) → items ≡ [] → AreServed outboxes items outboxes
none_served outboxes items none = subst (λ (is : List (ℕ × Request)). AreServed outboxes is outboxes) (sym none) (record { count = refl; each = each }) where
  each : (place : ℕ) (before after : Outbox) → slice_get outboxes place ≡ Some before → slice_get outboxes place ≡ Some after → answers_of before ≡ [] → Serves before.pass [] (answers_of after) after.pass
  each place before after at also empty =
      let same : before ≡ after = some_same before after (sym at ∙ also) in
      subst (λ (d : Outbox). Serves before.pass [] (answers_of d) d.pass) same (subst (λ (gs : List Given). Serves before.pass [] gs before.pass) (sym empty) refl)

-- between phases, each pass belongs to a session of a database
place_within : (k n : ℕ) → k < n * MAX_SHARED → k / MAX_SHARED < n
place_within k n below = omega arith

session_within : (k : ℕ) → IsShared (k % MAX_SHARED + 1)
session_within k = (omega arith, omega arith)

place_again : (k : ℕ) → outbox_of (k / MAX_SHARED) (k % MAX_SHARED + 1) ≡ k
place_again k = omega arith

pub all_have_outboxes : {S : Type 0} (sharing : Shared S) (taken : List Taken) (outboxes : List Outbox) → HavePasses sharing outboxes → Fits [] taken outboxes → AllByRecursion (HasOutbox sharing) outboxes
all_have_outboxes sharing taken outboxes passes fits = all_of_each (HasOutbox sharing) outboxes each where
  each : (k : ℕ) (outbox : Outbox) → slice_get outboxes k ≡ Some outbox → HasOutbox sharing outbox
  each k outbox at =
      let below : k < length sharing.openings * MAX_SHARED = subst (λ n. k < n) passes.count (below_at outboxes k outbox at) in
      let here : slice_get outboxes (outbox_of (k / MAX_SHARED) (k % MAX_SHARED + 1)) ≡ Some outbox = ap (slice_get outboxes) (place_again k) ∙ at in
      let is = session_within k in
      let was = nothing_served (seat_after (k / MAX_SHARED) (k % MAX_SHARED + 1) taken) (answers_of outbox) outbox.pass (fits (k / MAX_SHARED) (k % MAX_SHARED + 1) outbox is here) in
      subst (HasPass sharing) (sym was.same)
      (record {
        database = place_within k (length sharing.openings) below;
        session = subst (λ n. k % MAX_SHARED + 1 ≤ n) (sym passes.sessions) is.1;
      })

-- AT THE BEGINNING

as_many_of : (d sessions : ℕ) → length (new_passes_of d sessions) ≡ sessions
as_many_of d zero = refl
as_many_of d (suc k) = let more = as_many_of d k in let e = length-append (new_passes_of d k) (new_pass d (k + 1) ∷ []) in omega arith

as_many : (databases : ℕ) → length (new_passes databases MAX_SHARED) ≡ databases * MAX_SHARED
as_many zero = omega arith
as_many (suc d) =
    let a = as_many d in let b = as_many_of d MAX_SHARED in let e = length-append (new_passes d MAX_SHARED) (new_passes_of d MAX_SHARED) in omega arith

place_below : (n place session : ℕ) → outbox_of place session < n * MAX_SHARED → place < n
place_below n place session below = omega arith

seat_again : (session : ℕ) → IsShared session → session - 1 + 1 ≡ session
seat_again session is = let a = is.0 in omega arith

before_most : (session : ℕ) → IsShared session → session - 1 < MAX_SHARED
before_most session is = let a = is.0 in let b = is.1 in omega arith

-- before any line took an entry, all totals are those of no replies
all_alike : {A : Type 0} (n k : ℕ) (x y : A) → slice_get (replicate n x) k ≡ Some y → y ≡ x
all_alike zero k x y at = absurd (none_some y at)
all_alike (suc n) zero x y at = some_same y x (sym at)
all_alike (suc n) (suc k) x y at = all_alike n k x y at

pub totals_new : (n : ℕ) (totals : List Tally) → totals ≡ replicate n (tally_of []) → AreTotals [] totals
totals_new n totals are = λ place session tally is at.
    all_alike n (outbox_of place session) (tally_of []) tally (ap (λ (ts : List Tally). slice_get ts (outbox_of place session)) (sym are) ∙ at)

pub new_long : (n : ℕ) (passes : List Pass) (outboxes : List Outbox) → passes ≡ new_passes n MAX_SHARED → AllZip IsNewOutbox passes outboxes → length outboxes ≡ n * MAX_SHARED
new_long n passes outboxes same all = sym (zip_long IsNewOutbox passes outboxes all) ∙ ap (length {A = Pass}) same ∙ as_many n

pub fits_new : (n : ℕ) (passes : List Pass) (outboxes : List Outbox) → passes ≡ new_passes n MAX_SHARED → AllZip IsNewOutbox passes outboxes → Fits [] [] outboxes
fits_new n passes outboxes same all = λ place session outbox is at.
    let below = place_below n place session (subst (λ k. outbox_of place session < k) (new_long n passes outboxes same all) (below_at outboxes (outbox_of place session) outbox at)) in
    let there : slice_get passes (outbox_of place session) ≡ Some (new_pass place (session - 1 + 1)) =
    ap (λ (xs : List Pass). slice_get xs (outbox_of place session)) same ∙ passes_have_places n MAX_SHARED place (session - 1) below (before_most session is) in
    let new = beside IsNewOutbox passes outboxes (outbox_of place session) (new_pass place (session - 1 + 1)) all there in
    let it : new.0 ≡ outbox = some_same new.0 outbox (sym new.1.0 ∙ at) in
    let pass : outbox.pass ≡ seat_after place session [] =
    ap (λ (d : Outbox). d.pass) (sym it) ∙ new.1.1.0 ∙ ap (new_pass place) (seat_again session is) in
    let none : answers_of outbox ≡ [] = ap answers_of (sym it) ∙ new.1.1.1 in
    subst (λ (gs : List Given). Serves (seat_after place session []) [] gs outbox.pass) (sym none) pass
