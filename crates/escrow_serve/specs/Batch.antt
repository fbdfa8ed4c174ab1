-- Helps: lines that wait to be served together.
use Rattle.std.specs.Prelude.{◌≡◌, ◌≤◌, ◌<◌, ℕ, ◌+◌, ◌*◌, ◌==◌, if◌then◌else◌, true, Option, Some, None, List, [], ◌∷◌, ◌++◌, length, map, reverse, slice_get}
use Rattle.std.specs.List.{AllByRecursion}
use Rattle.sqlite_trees.specs.declared.store.Store.{Ghosts}
use Rattle.escrow_core.specs.Database.{Database}
use Rattle.escrow_machine.specs.declared.event.Event.{Event}
use Rattle.escrow_machine.specs.declared.event.Event.TheVariants as event
use Rattle.escrow_machine.specs.State.{State}
use Rattle.escrow_machine.specs.Step.{IsRun}
use Rattle.escrow_machine.specs.declared.reply.Reply.{Reply}
use Rattle.escrow_reply.specs.declared.short.TheConstants.{MAX_SHORT}
use Rattle.escrow_script.specs.Script.{TakesLine, left}
use Rattle.escrow_script.specs.declared.limits.TheConstants.{MAX_LINE}
use Rattle.escrow_serve.specs.Asked as asked
use Rattle.escrow_serve.specs.Asked.{Given, GivesLines, answers_at}
use Rattle.escrow_serve.specs.Ran.{Ran}
use Rattle.escrow_serve.specs.Shown.{AreShown}
use Rattle.escrow_serve.specs.Task.{IsTask}
use Rattle.escrow_serve.specs.declared.task.Task.{Task}
use Rattle.escrow_serve.specs.declared.task.Task.TheVariants as task
use Rattle.escrow_serve.specs.declared.waiting.Waiting.{Waiting}
use Rattle.escrow_serve.specs.declared.waiting.Waiting.TheVariants as waiting
use Rattle.escrow_serve.specs.declared.part.Part.{Part}

-- a line that waits: its bytes, and what it asks
pub record Item : Type 0 where
  pub bytes : List ℕ
  pub task : Task

-- lines, with one added after them
abbrev pub behind : List Item → List ℕ → Task → List Item
behind items bytes asked = items ++ record { bytes = bytes; task = asked } ∷ []

-- what is kept of a task that waits
abbrev pub waiting_of : Task → Waiting
waiting_of task.NoLine = waiting.NoLine
waiting_of (task.Refuse place session refusal) = waiting.Refused place session refusal
waiting_of (task.Statement place session asked) = waiting.Asked place session
waiting_of _ = waiting.Nothing

-- the event that a task asks of the database at a place, if it asks for one
abbrev pub event_at : ℕ → Task → List Event
event_at place (task.Statement other session asked) = if other == place then event.Statement session asked ∷ [] else []
event_at place _ = []

-- the events that lines ask of the database at a place, in order
abbrev pub events_at : ℕ → List Item → List Event
events_at place [] = []
events_at place (item ∷ items) = event_at place item.task ++ events_at place items

-- whether a task may wait: it is neither a restart, nor asks for totals
abbrev pub MayWait : Task → Type 0
MayWait (task.Restart place) = ⊥
MayWait (task.Statistics place session) = ⊥
MayWait _ = Unit {0}

-- a line asks its task, which may wait
abbrev pub IsItem : ℕ → ℕ → Item → Type 0
IsItem sessions databases item = IsTask sessions databases item.bytes item.task × MayWait item.task

-- each part has the events that lines ask of its database
abbrev pub AreAsked : List Part → List Item → Type 0
AreAsked parts items =
    (place : ℕ) (part : Part) → slice_get parts place ≡ Some part → part.events.items ≡ events_at place items

-- lines wait in a batch
pub record Gathers (sessions : ℕ) (databases : ℕ) (held : List Waiting) (parts : List Part)
    (items : List Item) : Type 0 where
  pub count : length parts ≡ databases
  pub are : AllByRecursion (IsItem sessions databases) items
  pub waits : held ≡ map (λ item. waiting_of item.task) items
  pub asked : AreAsked parts items

-- a line that waits is for a database that exists
abbrev pub IsWithin : ℕ → Waiting → Type 0
IsWithin databases (waiting.Refused place session refusal) = place < databases
IsWithin databases (waiting.Asked place session) = place < databases
IsWithin databases _ = Unit {0}

-- a part was run: its database served its events, and none is left
abbrev pub HasRun : {S : Type 0} → Ghosts S → Database S → Part → Database S → Part → Type 0
HasRun g old part new after =
    (after.events.items ≡ []) × Ran g old part.events.items (reverse after.answers.items) new

-- each part was run
abbrev pub HaveRun : {S : Type 0} → Ghosts S → List (Database S) → List Part → List (Database S) → List Part → Type 0
HaveRun {S} g olds parts news afters =
    (place : ℕ) (old new : Database S) (part after : Part) → slice_get olds place ≡ Some old
    → slice_get news place ≡ Some new
    → slice_get parts place ≡ Some part → slice_get afters place ≡ Some after → HasRun g old part new after

-- the replies that parts have left, from the last one on, answer what lines ask from these states on
pub record Runs (states new : List State) (items : List Item) (parts : List Part) : Type 0 where
  pub count : length new ≡ length states
  pub parted : length parts ≡ length states
  pub each : (place : ℕ) (before after : State) (part : Part) → slice_get states place ≡ Some before
      → slice_get new place ≡ Some after
      → slice_get parts place ≡ Some part → IsRun before (events_at place items) (reverse part.answers.items) after

-- each part has as many replies as lines ask for
abbrev pub AreReady : List Part → List Item → Type 0
AreReady parts items =
    (place : ℕ) (part : Part) → slice_get parts place ≡ Some part
    → length part.answers.items ≡ length (events_at place items)

-- lines were given the next replies of parts
pub record Gave (sessions : ℕ) (databases : ℕ) (items : List Item) (out : List ℕ)
    (parts lefts : List Part) : Type 0 where
  pub count : length lefts ≡ length parts
  pub given : List Given
  pub gives : GivesLines databases sessions (map (λ item. item.bytes) items) given out
  pub asked : (place : ℕ) → asked.events_at place given ≡ events_at place items
  pub told : (place : ℕ) (part left : Part) → slice_get parts place ≡ Some part → slice_get lefts place ≡ Some left
      → (replies : List Reply) × (reverse part.answers.items ≡ replies ++ reverse left.answers.items)
      × AreShown replies (answers_at place given)

-- lines were taken, one after another; of each, no more bytes are kept than of any line
abbrev pub TakesLines : List (List ℕ) → Option (List ℕ) → Option (List ℕ) → Type 0
TakesLines [] bytes rest = rest ≡ bytes
TakesLines (kept ∷ more) bytes rest =
    (mid : Option (List ℕ)) × (length kept ≤ MAX_LINE + 1) × TakesLine true bytes mid kept × TakesLines more mid rest

-- the line that was taken last and may not wait, if there is one
abbrev pub IsLast : ℕ → ℕ → Option Task → List (List ℕ) → Type 0
IsLast sessions databases None last = last ≡ []
IsLast sessions databases (Some asked) last =
    (bytes : List ℕ) × (last ≡ bytes ∷ []) × IsTask sessions databases bytes asked

-- after a line that was taken, lines in hand were taken: they wait in a batch, except the last one if it may not wait
pub record GathersLines (sessions : ℕ) (databases : ℕ) (first unread rest : List ℕ) (waits : List Waiting)
    (parts : List Part) (alone : Option Task) : Type 0 where
  pub short : length first ≤ MAX_LINE + 1
  pub items : List Item
  pub lines : List (List ℕ)
  pub last : List (List ℕ)
  pub gathers : Gathers sessions databases waits parts items
  pub whole : first ∷ lines ≡ map (λ item. item.bytes) items ++ last
  pub is_last : IsLast sessions databases alone last
  pub taken : (rem : Option (List ℕ)) → TakesLines lines (left unread rem) (left rest rem)
  pub fewer : length lines + length rest ≤ length unread

-- there is room for a short reply to each line that waits, and to the one that may not wait
abbrev pub HasRoom : Option Task → ℕ → ℕ → ℕ → Type 0
HasRoom None waits len capacity = len + MAX_SHORT * waits ≤ capacity
HasRoom (Some asked) waits len capacity = len + MAX_SHORT * (waits + 1) ≤ capacity
