-- Helps: workers that are being fed through channels.
use Rattle.std.specs.Prelude.{◌≡◌, ℕ, ◌<◌, ◌≤◌, List, [], ◌∷◌, ◌++◌, length, map, slice_get, Some}
use Rattle.escrow_statement.specs.declared.statement.Request.{Request}
use Rattle.escrow_shards.specs.Pass.{Pass}
use Rattle.escrow_sessions.specs.Fed.{of}
use Rattle.escrow_sessions.specs.Ends.{sent_on}
use Rattle.escrow_sessions.specs.Serving.{IsDone}
use Rattle.escrow_sessions.specs.Work.{IsAbsent}
use Rattle.escrow_sessions.specs.declared.feed.Done.{Done}
use Rattle.escrow_sessions.specs.declared.slot.FedWorker.{FedWorker}
use Rattle.escrow_sessions.specs.declared.rule.Item.{Item}
use Rattle.escrow_sessions.specs.declared.rule.Item.TheVariants.{One, End}
use Rattle.escrow_sessions.specs.declared.slot.Slot.{Slot}
use Rattle.escrow_sessions.specs.declared.slot.Slot.TheVariants.{Fed, Absent}

-- a message was sent to a worker
pub record IsSentTo (old : FedWorker) (x : Item) (new : FedWorker) : Type 0 where
  pub began : new.thread.promise ≡ old.thread.promise
  pub sent : sent_on new.sender ≡ sent_on old.sender ++ x ∷ []

-- a worker to which these messages were sent, or one that couldn't be started
abbrev pub IsSlot : Pass → List Item → Slot → Type 0
IsSlot seat sent (Fed fed) = (fed.thread.promise.pass.value ≡ seat) × (sent_on fed.sender ≡ sent)
IsSlot seat sent (Absent d) = IsAbsent seat d

-- the messages for requests, and all messages, with the one for the end
abbrev pub messages : List Request → List Item
messages requests = map One requests

abbrev pub to_the_end : List Request → List Item
to_the_end requests = messages requests ++ End ∷ []

-- what a slot returns, whatever was sent to it up to the end
abbrev pub JoinsAs : Slot → Done → Type 0
JoinsAs slot d =
    (seat : Pass) (requests : List Request) → IsSlot seat (to_the_end requests) slot → IsDone seat requests d

-- a worker to which nothing was sent yet
abbrev pub IsNewSlot : Pass → Slot → Type 0
IsNewSlot seat slot = IsSlot seat [] slot

-- the requests of items were sent, each to the worker at its place
pub record AreFurther (items : List (ℕ × Request)) (old new : List Slot) : Type 0 where
  pub count : length new ≡ length old
  pub each : (place : ℕ) (before after : Slot) (seat : Pass) (sent : List Item) → slice_get old place ≡ Some before
      → slice_get new place ≡ Some after
      → IsSlot seat sent before → IsSlot seat (sent ++ messages (of place items)) after

-- the end was sent to a worker
abbrev pub IsEnded : Slot → Slot → Type 0
IsEnded before after = (seat : Pass) (sent : List Item) → IsSlot seat sent before → IsSlot seat (sent ++ End ∷ []) after

pub record AreEnded (old new : List Slot) : Type 0 where
  pub count : length new ≡ length old
  pub each : (place : ℕ) (before after : Slot) → slice_get old place ≡ Some before → slice_get new place ≡ Some after
      → IsEnded before after

-- the end was sent to the workers before a place, and the others are unchanged
pub record AreEndedBefore (n : ℕ) (old new : List Slot) : Type 0 where
  pub count : length new ≡ length old
  pub ended : (place : ℕ) (before after : Slot) → place < n → slice_get old place ≡ Some before
      → slice_get new place ≡ Some after → IsEnded before after
  pub others : (place : ℕ) (before after : Slot) → n ≤ place → slice_get old place ≡ Some before
      → slice_get new place ≡ Some after → after ≡ before
