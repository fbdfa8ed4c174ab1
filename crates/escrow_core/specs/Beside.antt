-- Helps: definitions for COMMITs that are held back, and for what is served beside them.
use Rattle.std.specs.Prelude.{◌≡◌, ℕ, ◌+◌, ◌≤◌, ◌<◌, Bool, IsTrue, IsSome, true, false, not, if◌then◌else◌, MatchBool, Option, None, is_none, option_map, unwrap_or, List, [], ◌∷◌, ◌++◌, length, take, drop, replicate, slice_set}
use Rattle.std.specs.List.{AllByRecursion, list_any}
use Rattle.sqlite.specs.State.{State as Store, HasCleanDisk, Survives}
use Rattle.sqlite_trees.specs.Tree.{Trees}
use Rattle.escrow_num.specs.declared.failure.Failure.{Failure}
use Rattle.escrow_num.specs.declared.session.End.{End}
use Rattle.escrow_num.specs.declared.session.End.TheVariants as end
use Rattle.escrow_num.specs.Refusal.{refusal_for}
use Rattle.escrow_num.specs.Ascending.{IsAscending}
use Rattle.escrow_statement.specs.declared.statement.Statement.{Statement}
use Rattle.escrow_statement.specs.declared.statement.Statement.TheVariants as statement
use Rattle.escrow_journal.specs.Reservations.{own, savepoint_before}
use Rattle.escrow_schema.specs.Plan.{is_literal}
use Rattle.escrow_machine.specs.declared.event.Event.{Event}
use Rattle.escrow_machine.specs.declared.event.Event.TheVariants as event
use Rattle.escrow_machine.specs.declared.reply.Reply.{Reply}
use Rattle.escrow_machine.specs.declared.reply.Reply.TheVariants as reply
use Rattle.escrow_machine.specs.Held.{Waiting, Outcome, IsHeldBack, IsServedBeside, IsHeldRun, events_of, answers_by}
use Rattle.escrow_machine.specs.Settle.{after_end}
use Rattle.escrow_machine.specs.State.{State}
use Rattle.escrow_machine.specs.Step.{IsRun}
use Rattle.escrow_rows.specs.Answers.{IsUsable}
use Rattle.escrow_core.specs.Left.{AreAfterAnswered, AreAfterSome, Lasts, TellNoWrite}
use Rattle.escrow_core.specs.Serves.{AreAfter, AreHeldOf}

-- COMMITs that are held back, in order: the plan that writes them, and the places of their replies
pub record HeldBack : Type 0 where
  pub plan : List (ℕ × End)
  pub places : List ℕ

-- none is held back
abbrev pub none_held : HeldBack
none_held = record { plan = []; places = [] }

-- with the COMMIT of one more session held back, whose reply goes to a place
abbrev pub with_held : HeldBack → ℕ → ℕ → HeldBack
with_held held session place =
    record { plan = held.plan ++ (session, end.Commit) ∷ []; places = held.places ++ place ∷ [] }

-- whether a statement passes the COMMITs of other sessions unless it is refused: it depends only on what its session
-- has open, or it is an UPDATE that assigns a change
abbrev pub is_passing : Statement → Bool
is_passing statement.Commit = true
is_passing statement.Rollback = true
is_passing (statement.RollbackTo name) = true
is_passing (statement.Savepoint name) = true
is_passing (statement.Update text) = list_any (λ assign. not (is_literal assign.value)) text.assigns
is_passing asked = false

-- An event, whose reply goes to a place, was served beside COMMITs that are held back, or is held back as well.
pub record Joins (sure : Type 0) (happened : Event) (place : ℕ) (held : HeldBack) (before : State) (answer : Reply)
    (later : HeldBack) (after : State) : Type 0 where
  pub waiting : Waiting
  pub is_event : happened ≡ event.Statement waiting.session waiting.asked
  pub is_answer : answer ≡ waiting.answer
  pub apart : AllByRecursion (λ entry. ¬ (entry.0 ≡ waiting.session)) held.plan
  pub in_order : IsAscending savepoint_before before.savepoints
  pub is_later : later ≡ (if waiting.is_held then with_held held waiting.session place else held)
  pub waits : sure
      → MatchBool waiting.is_held (IsHeldBack waiting.session waiting.asked waiting.answer before after)
      (IsServedBeside waiting.session waiting.asked waiting.answer before after)

-- the disk has a database that holds the tables and rows after an event; a restart writes nothing
abbrev pub AreAfterEvent : State → Event → Trees → Type 0
AreAfterEvent s (event.Statement session asked) trees = AreAfter s session asked trees
AreAfterEvent s event.Restart trees = ⊥

-- THE COMMITS ARE WRITTEN

-- the replies, after the reply at each place with a failure is replaced by the refusal
abbrev pub refused_at : List ℕ → List (Option Failure) → List Reply → List Reply
refused_at [] outcomes replies = replies
refused_at (place ∷ places) [] replies = replies
refused_at (place ∷ places) (outcome ∷ outcomes) replies =
    refused_at places outcomes
    (unwrap_or (option_map (λ failure. slice_set replies place (reply.Refused (refusal_for failure))) outcome)
    replies)

-- the state after the entries of a plan, one after another, without those that have a failure
abbrev pub ended : List (ℕ × End) → List (Option Failure) → State → State
ended [] outcomes s = s
ended (entry ∷ plan) [] s = s
ended (entry ∷ plan) (outcome ∷ outcomes) s =
    ended plan outcomes (if is_none outcome then after_end s entry.0 entry.1 else s)

-- each entry of a plan was written or failed, and the refusals replace the replies of those that failed
pub record AreSettled (sure : Type 0) (plan : List (ℕ × End)) (places : List ℕ) (before : State) (replies : List Reply)
    (after : State) (later : List Reply) : Type 0 where
  pub outcomes : List (Option Failure)
  pub as_many : length outcomes ≡ length plan
  pub is_later : later ≡ refused_at places outcomes replies
  pub is_after : sure → after ≡ ended plan outcomes before

-- the disk has a database that holds the tables and rows after some first entries of a plan: the first of these ended
-- as their outcomes say, and those after them were done
abbrev pub AreAfterOutcomes : List (ℕ × End) → List (Option Failure) → State → Trees → Type 0
AreAfterOutcomes plan outcomes s trees =
    (n : ℕ) × (more : ℕ) × (n ≤ length outcomes) × (n + more ≤ length plan)
    × AreHeldOf (ended plan (take n outcomes ++ replicate more None) s) trees

-- each of these COMMITs failed
abbrev pub HaveFailed : List (Option Failure) → Type 0
HaveFailed outcomes = AllByRecursion IsSome outcomes

-- the same, and no COMMIT was done behind those whose outcomes count as they are
pub record AreAfterDone (plan : List (ℕ × End)) (outcomes : List (Option Failure)) (s : State)
    (trees : Trees) : Type 0 where
  pub some : AreAfterOutcomes plan outcomes s trees
  pub none_missing : HaveFailed (drop some.0 outcomes)

-- no two entries of a plan are of one session
abbrev pub AreApart : List (ℕ × End) → Type 0
AreApart [] = Unit {0}
AreApart (entry ∷ plan) = AllByRecursion (λ later. ¬ (later.0 ≡ entry.0)) plan × AreApart plan

-- each entry of a plan is a COMMIT, of a session of its own, which holds a reservation
pub record AreHolding (plan : List (ℕ × End)) (s : State) : Type 0 where
  pub apart : AreApart plan
  pub holds : AllByRecursion (λ entry. (entry.1 ≡ end.Commit) × (0 < length (own entry.0 s.reservations))) plan

-- how a plan was settled, and what a crash leaves of it
pub record AreAllSettled (old new : Store) (plan : List (ℕ × End)) (places : List ℕ) (before : State)
    (replies : List Reply) (after : State) (later : List Reply) : Type 0 where
  pub settled : AreSettled (HasCleanDisk new) plan places before replies after later
  pub left : Survives old new (λ trees. IsTrue old.is_open × AreAfterOutcomes plan settled.outcomes before trees)
  pub durable : AreHolding plan before
      → Lasts old new (HaveFailed settled.outcomes) (AreAfterDone plan settled.outcomes before)

-- A BATCH OF EVENTS

-- events were served, and their replies come after others
pub record AreServed (sure : Type 0) (s : State) (events : List Event) (before replies : List Reply)
    (now : State) : Type 0 where
  pub answers : List Reply
  pub as_many : length answers ≡ length events
  pub is_replies : replies ≡ before ++ answers
  pub ran : sure → IsRun s events answers now

-- each COMMIT that was held back is done
abbrev pub all_done : Outcome
all_done session = None

-- the plan that writes the COMMITs that were held back
abbrev pub plan_of : List Waiting → List (ℕ × End)
plan_of [] = []
plan_of (w ∷ earlier) = if w.is_held then plan_of earlier ++ (w.session, end.Commit) ∷ [] else plan_of earlier

-- the places of their replies, if the replies of all begin at a place
abbrev pub places_of : ℕ → List Waiting → List ℕ
places_of start [] = []
places_of start (w ∷ earlier) =
    if w.is_held then places_of start earlier ++ (start + length earlier) ∷ [] else places_of start earlier

-- the savepoints were in order when the first of the statements that wait was asked, if there is one
abbrev pub BeginsInOrder : State → List Waiting → Type 0
BeginsInOrder mid [] = Unit {0}
BeginsInOrder mid (w ∷ earlier) = IsAscending savepoint_before mid.savepoints

-- Events were served, and the last of them wait. Their COMMITs are held back, with the replies that they will have once
-- they are written.
pub record IsBatch (sure : Type 0) (s : State) (events : List Event) (before replies : List Reply) (held : HeldBack)
    (now : State) : Type 0 where
  pub served : List Event
  pub told : List Reply
  pub mid : State
  pub waiting : List Waiting
  pub first : AreServed sure s served before told mid
  pub waits : sure → IsHeldRun mid waiting now
  pub in_order : sure → BeginsInOrder mid waiting
  pub is_events : events ≡ served ++ events_of waiting
  pub is_replies : replies ≡ told ++ answers_by all_done waiting
  pub is_held : held ≡ record { plan = plan_of waiting; places = places_of (length told) waiting }
  pub apart : AreApart held.plan

-- a batch, and what a crash leaves of what was served of it, since an earlier state of the store
pub record IsLeftBatch (first now : Store) (s : State) (events : List Event) (before replies : List Reply)
    (held : HeldBack) (latest : State) : Type 0 where
  pub batch : IsBatch (HasCleanDisk now) s events before replies held latest
  pub usable : IsUsable now → IsUsable first
  pub left : Survives first now (λ trees. IsTrue first.is_open × AreAfterSome s batch.served batch.first.answers trees)
  pub durable : Lasts first now (TellNoWrite batch.first.answers) (AreAfterAnswered s batch.served batch.first.answers)
