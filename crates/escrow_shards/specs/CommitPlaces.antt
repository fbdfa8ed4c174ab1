-- Helps: the places of COMMITs that wait while another one is served.
use Rattle.std.specs.Prelude.{◌≡◌, ℕ, ◌-◌, ◌<◌, ◌≤◌, true, Result, IfOk, List, [], ◌∷◌, length, get_or, slice_set, sum_by}
use Rattle.escrow_num.specs.declared.failure.Failure.{Failure}
use Rattle.escrow_history.specs.declared.committed.Committed.{Committed}
use Rattle.escrow_shards.specs.declared.commit_queue.CommitState.{CommitState}
use Rattle.escrow_shards.specs.declared.commit_queue.CommitState.TheVariants as place
use Rattle.escrow_shards.specs.declared.commit_queue.TheConstants.CommitQueue.{COUNT}
use Rattle.escrow_shards.specs.declared.commit_queue.Turn.{Turn}
use Rattle.escrow_shards.specs.declared.commit_queue.Turn.TheVariants as turn
use Rattle.escrow_shards.specs.CommitQueue.{at, Queue}

-- a queue, with another state in the place of a session
abbrev pub with_place : Queue → ℕ → CommitState → Queue
with_place queue session new = record { places = slice_set queue.places (session - 1) new; is_led = queue.is_led }

-- a COMMIT that was served, in the place of a session, names this session
abbrev pub IsPlaceOf : ℕ → CommitState → Type 0
IsPlaceOf session (place.Answered outcome) = IfOk outcome (λ c. c.session ≡ session)
IsPlaceOf session _ = Unit {0}

-- one if a COMMIT waits in a place
abbrev pub waits_in : CommitState → ℕ
waits_in place.Free = 0
waits_in place.Asked = 1
waits_in place.Leads = 0
waits_in (place.Answered outcome) = 0

-- WHAT ALWAYS HOLDS. There is a place for each session, and each COMMIT that was served is in that of its session.
-- Those that wait are counted. None waits without a session that leads.
pub record AreInPlaces (queue : Queue) (waiting : ℕ) : Type 0 where
  pub count : length queue.places ≡ COUNT
  pub counted : waiting ≡ sum_by waits_in queue.places
  pub named : (session : ℕ) → 1 ≤ session → IsPlaceOf session (at queue session)
  pub led : 0 < waiting → queue.is_led ≡ true

-- no COMMIT waits in these places: from one on, and before another one
abbrev pub NoneWaitsIn : ℕ → ℕ → List CommitState → Type 0
NoneWaitsIn from end places =
    (before : ℕ) → from ≤ before → before < end → ¬ (get_or places before place.Free ≡ place.Asked)

-- if the COMMIT of a session was served, it names the session
abbrev pub IsTurnOf : ℕ → Turn → Type 0
IsTurnOf session (turn.Answered outcome) = IfOk outcome (λ c. c.session ≡ session)
IsTurnOf session _ = Unit {0}

-- what happened to a COMMIT that left its place
abbrev pub turn_in : CommitState → Turn
turn_in place.Free = turn.Alone
turn_in place.Asked = turn.Alone
turn_in place.Leads = turn.Leads
turn_in (place.Answered outcome) = turn.Answered outcome

-- a queue, after outcomes were left in the places of their sessions
abbrev pub answered : List ℕ → List (Result Committed Failure) → Queue → Queue
answered (session ∷ sessions) (outcome ∷ outcomes) queue =
    answered sessions outcomes (with_place queue session (place.Answered outcome))
answered [] outcomes queue = queue
answered (session ∷ sessions) [] queue = queue
