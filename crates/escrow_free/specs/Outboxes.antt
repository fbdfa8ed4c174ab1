-- Helps: the outboxes of sessions.
use Rattle.std.specs.Prelude.{◌≡◌, ℕ, ◌+◌, ◌-◌, ◌*◌, ◌<◌, Option, Some, None, List, [], ◌∷◌, ◌++◌, length, slice_get}
use Rattle.std.specs.Vec.Iter.{into_iter_items}
use Rattle.escrow_num.specs.Session.{IsShared}
use Rattle.escrow_num.specs.declared.session.TheConstants.Session.{MAX_SHARED}
use Rattle.escrow_statement.specs.declared.statement.Request.{Request}
use Rattle.escrow_machine.specs.declared.reply.Reply.{Reply}
use Rattle.escrow_stats.specs.Tally.{tally_of}
use Rattle.escrow_stats.specs.declared.tally.Tally.{Tally}
use Rattle.escrow_shards.specs.declared.pass.Answer.TheVariants as answer
use Rattle.escrow_shards.specs.Pass.{Pass}
use Rattle.escrow_shards.specs.Shared.{Shared, HasPass}
use Rattle.escrow_sessions.specs.Fed.{of}
use Rattle.escrow_sessions.specs.Serving.{Serves}
use Rattle.escrow_sessions.specs.declared.feed.Done.{Done}
use Rattle.escrow_sessions.specs.declared.feed.Given.{Given}
use Rattle.escrow_sessions.specs.declared.feed.Feed.{Feed}
use Rattle.escrow_sessions.specs.declared.feed.Given.TheVariants as given
use Rattle.escrow_free.specs.FreeOutput.{Taken, taken_by, replies_by}
use Rattle.escrow_free.specs.declared.outbox.Outbox.{Outbox}

-- the place of a session's outbox among the outboxes of all databases
abbrev pub outbox_of : ℕ → ℕ → ℕ
outbox_of place session = place * MAX_SHARED + (session - 1)

-- the pass of an outbox, and its answers that aren't printed yet
abbrev pub pass_of : Outbox → Pass
pass_of outbox = outbox.pass

abbrev pub answers_of : Outbox → List Given
answers_of outbox = into_iter_items outbox.answers

-- an outbox of a pass, without answers
abbrev pub IsNewOutbox : Pass → Outbox → Type 0
IsNewOutbox seat outbox = (outbox.pass ≡ seat) × (answers_of outbox ≡ [])

-- an outbox of what a worker did
abbrev pub IsDoneOutbox : Done → Outbox → Type 0
IsDoneOutbox done outbox = (outbox.pass ≡ done.pass) × (answers_of outbox ≡ done.answers.items)

-- an outbox of a feed that wasn't served
abbrev pub IsUnservedOutbox : Feed → Outbox → Type 0
IsUnservedOutbox feed outbox = IsNewOutbox feed.pass outbox

-- the next of some answers, if there is one
abbrev pub IsNext : List Given → Option Given → List Given → Type 0
IsNext old (Some g) new = old ≡ g ∷ new
IsNext old None new = (old ≡ []) × (new ≡ [])

-- an outbox's pass is for one of the databases and sessions
abbrev pub HasOutbox : {S : Type 0} → Shared S → Outbox → Type 0
HasOutbox sharing outbox = HasPass sharing outbox.pass

-- each session of each database has an outbox
pub record HavePasses {S : Type 0} (sharing : Shared S) (outboxes : List Outbox) : Type 0 where
  pub sessions : sharing.sessions ≡ MAX_SHARED
  pub count : length outboxes ≡ length sharing.openings * MAX_SHARED

-- passes were served: each has an outbox, whose answers are those to the requests of the items that name its place
pub record ArePassesServed (passes : List Pass) (items : List (ℕ × Request)) (served : List Outbox) : Type 0 where
  pub count : length served ≡ length passes
  pub each : (place : ℕ) (seat : Pass) (outbox : Outbox) → slice_get passes place ≡ Some seat
      → slice_get served place ≡ Some outbox
      → Serves seat (of place items) (answers_of outbox) outbox.pass

-- outboxes were served: if an outbox had no answers left, its answers are those to the requests of the items that name
-- it
pub record AreServed (old : List Outbox) (items : List (ℕ × Request)) (new : List Outbox) : Type 0 where
  pub count : length new ≡ length old
  pub each : (place : ℕ) (before after : Outbox) → slice_get old place ≡ Some before → slice_get new place ≡ Some after
      → answers_of before ≡ [] → Serves before.pass (of place items) (answers_of after) after.pass

-- the totals of a session count what it was given, as long as it has more receipts than were counted before
abbrev pub IsCounted : Option Given → Pass → Tally → Tally → Type 0
IsCounted (Some (given.Reply (answer.Served reply))) seat old new =
    (replies : List Reply) → length replies < length seat.receipts → old ≡ tally_of replies
    → new ≡ tally_of (replies ++ reply ∷ [])
IsCounted _ seat old new = new ≡ old

-- the pass of a session whose lines took these receipts
abbrev pub seat_after : ℕ → ℕ → List Taken → Pass
seat_after place session taken = record { database = place; session = session; receipts = taken_by place session taken }

-- THE OUTBOXES FIT what lines took. From a pass with the receipts that a session's lines took so far, the outbox's
-- remaining answers to the remaining requests lead to the outbox's pass
abbrev pub Fits : List (ℕ × Request) → List Taken → List Outbox → Type 0
Fits items taken outboxes =
    (place session : ℕ) (outbox : Outbox) → IsShared session
    → slice_get outboxes (outbox_of place session) ≡ Some outbox
    → Serves (seat_after place session taken) (of (outbox_of place session) items) (answers_of outbox) outbox.pass

-- the totals of each session, by the place of its outbox, are those of the replies that its lines took
abbrev pub AreTotals : List Taken → List Tally → Type 0
AreTotals taken totals =
    (place session : ℕ) (tally : Tally) → IsShared session → slice_get totals (outbox_of place session) ≡ Some tally
    → tally ≡ tally_of (replies_by place session taken)
