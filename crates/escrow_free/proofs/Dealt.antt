-- Items that are dealt out, and their results.
use Rattle.std.proofs.Common.{◌≡◌, ◌≢◌, ◌⊎◌, ℕ, ◌<◌, List, [], ◌∷◌, ◌++◌, length, set, get_or, slice_get, Some, refl, sym, ap, subst, ◌∙◌, inl, inr}
use Rattle.std.specs.List.{AllByRecursion, AllZip}
use Rattle.std.proofs.lemmas.Option.{slice_get_read}
use Rattle.escrow_statement.specs.declared.statement.Request.{Request}
use Rattle.escrow_shards.specs.Pass.{Pass}
use Rattle.escrow_shards.specs.Shared.{Shared, HasPass}
use Rattle.escrow_sessions.specs.Fed.{of}
use Rattle.escrow_sessions.specs.Serving.{IsDone, AreDone, HasItsPass, Serves}
use Rattle.escrow_sessions.specs.declared.feed.Done.{Done}
use Rattle.escrow_sessions.specs.declared.feed.Given.{Given}
use Rattle.escrow_sessions.specs.declared.feed.Feed.{Feed}
use Rattle.escrow_free.specs.Dealing.{AreDealt, IsAdded, IsNewFeed}
use Rattle.escrow_free.specs.Outboxes.{answers_of, ArePassesServed, IsDoneOutbox, IsUnservedOutbox}
use Rattle.escrow_free.specs.declared.outbox.Outbox.{Outbox}
use Rattle.escrow_sessions.proofs.Places.{some_same, long_set, set_cases, at_below, below_at, beside, zip_long, all_at, all_of_each}
use Rattle.escrow_sessions.proofs.Placing.{of_here, of_else}

-- at first no feed has a request
pub dealt_none : (passes : List Pass) (feeds : List Feed) → AllZip IsNewFeed passes feeds → AreDealt passes [] feeds
dealt_none passes feeds all = record {
  count = sym (zip_long IsNewFeed passes feeds all);
  each = λ place seat feed at there.
      let its = beside IsNewFeed passes feeds place seat all at in
      subst (IsNewFeed seat) (some_same its.0 feed (sym its.1.0 ∙ there)) its.1.1;
}

-- one more item was dealt out
pub dealt_one : (passes : List Pass) (items : List (ℕ × Request)) (now : List Feed) (place : ℕ) (r : Request) (feed next : Feed) → AreDealt passes items now → place < length now → feed ≡ get_or now place feed
    → IsAdded feed r next → AreDealt passes (items ++ (place, r) ∷ []) (set now place next)
dealt_one passes items now place r feed next before below read added = record {
  count = long_set now place next ∙ before.count;
  each = λ p seat last at there. moved p seat last at (set_cases now place p next last there);
} where
  here : slice_get now place ≡ Some feed
  here = slice_get_read now (length now) place feed refl below read

  moved : (p : ℕ) (seat : Pass) (last : Feed) → slice_get passes p ≡ Some seat → ((p ≡ place) × (next ≡ last)) ⊎ ((p ≢ place) × (slice_get now p ≡ Some last))
      → (last.pass ≡ seat) × (last.requests.items ≡ of p (items ++ (place, r) ∷ []))
  moved p seat last at (inl same) =
      let was = before.each p seat feed at (ap (slice_get now) same.0 ∙ here) in
      let more : of p (items ++ (place, r) ∷ []) ≡ of p items ++ r ∷ [] = subst (λ q. of p (items ++ (q, r) ∷ []) ≡ of p items ++ r ∷ []) same.0 (of_here p r items) in
      subst (λ (f : Feed). (f.pass ≡ seat) × (f.requests.items ≡ of p (items ++ (place, r) ∷ []))) same.1 (added.0 ∙ was.0, added.1 ∙ ap (λ rs. rs ++ r ∷ []) was.1 ∙ sym more)
  moved p seat last at (inr away) =
      let apart = away.0 in
      let was = before.each p seat last at away.1 in (was.0, was.1 ∙ sym (of_else p place r items (λ same. apart (sym same))))

-- if the passes belong to databases and sessions, so do their feeds
pub dealt_seats : {S : Type 0} (sharing : Shared S) (passes : List Pass) (items : List (ℕ × Request)) (feeds : List Feed) → AllByRecursion (HasPass sharing) passes → AreDealt passes items feeds
    → AllByRecursion (HasItsPass sharing) feeds
dealt_seats sharing passes items feeds have dealt = all_of_each (HasItsPass sharing) feeds (λ place feed there.
    let seat = at_below passes place (subst (λ n. place < n) dealt.count (below_at feeds place feed there)) in
    subst (HasPass sharing) (sym (dealt.each place seat.0 feed seat.1 there).0) (all_at (HasPass sharing) passes place seat.0 have seat.1))

-- the answers to the requests of a feed are those to its items
answered : (passes : List Pass) (items : List (ℕ × Request)) (feeds : List Feed) (place : ℕ) (seat : Pass) (feed : Feed) (gs : List Given) (end : Pass) → AreDealt passes items feeds
    → slice_get passes place ≡ Some seat → slice_get feeds place ≡ Some feed → Serves feed.pass feed.requests.items gs end → Serves seat (of place items) gs end
answered passes items feeds place seat feed gs end dealt at there serves =
    let is = dealt.each place seat feed at there in
    subst (λ (s : Pass). Serves s (of place items) gs end) is.0 (subst (λ (rs : List Request). Serves feed.pass rs gs end) is.1 serves)

-- the outboxes after their feeds were served
pub dealt_served : (passes : List Pass) (items : List (ℕ × Request)) (feeds : List Feed) (done : List Done) (outboxes : List Outbox) → AreDealt passes items feeds → AreDone feeds done → AllZip IsDoneOutbox done outboxes
    → ArePassesServed passes items outboxes
dealt_served passes items feeds done outboxes dealt were all = record {
  count = sym (zip_long _ done outboxes all) ∙ sym (zip_long _ feeds done were) ∙ dealt.count;
  each = λ place seat outbox at there.
      let feed = at_below feeds place (subst (λ n. place < n) (sym dealt.count) (below_at passes place seat at)) in
      let worker = beside (λ (f : Feed) (d : Done). IsDone f.pass f.requests.items d) feeds done place feed.0 were feed.1 in
      let its = beside IsDoneOutbox done outboxes place worker.0 all worker.1.0 in
      let same : its.0 ≡ outbox = some_same its.0 outbox (sym its.1.0 ∙ there) in
      let serves : Serves seat (of place items) (worker.0).answers.items (worker.0).pass =
      answered passes items feeds place seat feed.0 (worker.0).answers.items (worker.0).pass dealt at feed.1 worker.1.1.serves in
      let given : Serves seat (of place items) (answers_of its.0) (worker.0).pass =
      subst (λ (gs : List Given). Serves seat (of place items) gs (worker.0).pass) (sym its.1.1.1) serves in
      let passed : Serves seat (of place items) (answers_of its.0) (its.0).pass =
      subst (λ (p : Pass). Serves seat (of place items) (answers_of its.0) p) (sym its.1.1.0) given in
      subst (λ (d : Outbox). Serves seat (of place items) (answers_of d) d.pass) same passed;
}

-- the outboxes if their feeds were not served
pub dealt_unserved : (passes : List Pass) (items : List (ℕ × Request)) (feeds : List Feed) (outboxes : List Outbox) → AreDealt passes items feeds → AllZip IsUnservedOutbox feeds outboxes → ArePassesServed passes items outboxes
dealt_unserved passes items feeds outboxes dealt all = record {
  count = sym (zip_long IsUnservedOutbox feeds outboxes all) ∙ dealt.count;
  each = λ place seat outbox at there.
      let feed = at_below feeds place (subst (λ n. place < n) (sym dealt.count) (below_at passes place seat at)) in
      let its = beside IsUnservedOutbox feeds outboxes place feed.0 all feed.1 in
      let same : its.0 ≡ outbox = some_same its.0 outbox (sym its.1.0 ∙ there) in
      let is = dealt.each place seat feed.0 at feed.1 in
      let none : Serves seat (of place items) (answers_of its.0) (its.0).pass =
      subst (λ (gs : List Given). Serves seat (of place items) gs (its.0).pass) (sym its.1.1.1) (its.1.1.0 ∙ is.0) in
      subst (λ (d : Outbox). Serves seat (of place items) (answers_of d) d.pass) same none;
}
