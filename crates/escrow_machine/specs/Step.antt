-- Believed: the step, what may happen instead of it, and runs.
use Rattle.std.specs.Prelude.{◌≡◌, ◌⊎◌, ℕ, Bool, true, false, ◌&&◌, not, nat_lt, length, Option, is_none, option_map, unwrap_or, MatchOption, IsTrue, List, [], ◌∷◌, ◌++◌}
use Rattle.escrow_num.specs.declared.refusal.Refusal.{Refusal}
use Rattle.escrow_num.specs.declared.refusal.Refusal.TheVariants as refusal
use Rattle.escrow_num.specs.Refusal.{first_refusal}
use Rattle.escrow_statement.specs.declared.statement.Statement.{Statement}
use Rattle.escrow_statement.specs.declared.statement.Statement.TheVariants as statement
use Rattle.escrow_journal.specs.Reservations.{own}
use Rattle.escrow_machine.specs.declared.event.Event.{Event}
use Rattle.escrow_machine.specs.declared.event.Event.TheVariants as event
use Rattle.escrow_machine.specs.declared.reply.Reply.{Reply}
use Rattle.escrow_machine.specs.declared.reply.Reply.TheVariants as reply
use Rattle.escrow_num.specs.declared.failure.Failure.{Failure}
use Rattle.escrow_num.specs.declared.failure.Failure.TheVariants as failure
use Rattle.escrow_machine.specs.Reply.{failure_of}
use Rattle.escrow_machine.specs.Asked.{reserves_beside}
use Rattle.escrow_machine.specs.State.{State, opened}
use Rattle.escrow_machine.specs.Transition.{Transition, transition_of}

-- all refusals of a transition, in their order
abbrev pub refusals : Transition → List (Option Refusal)
refusals transition = transition.early ++ transition.late

-- the first refusal that applies is the reply, and the state stays; if none applies, the reply and the new state
abbrev pub unless_refused : State → List (Option Refusal) → Reply → State → Reply × State
unless_refused s refusals done new =
    unwrap_or (option_map (λ r. (reply.Refused r, s)) (first_refusal refusals)) (done, new)

-- THE STEP: the reply to a statement of a session, and the state after it
abbrev pub step : State → ℕ → Statement → Reply × State
step s session asked = let transition =
    transition_of s session asked in unless_refused s (refusals transition) transition.reply transition.next

-- the reply and the new state are those of the step
pub record IsStep (s : State) (session : ℕ) (asked : Statement) (answer : Reply) (new : State) : Type 0 where
  pub is_step : (answer, new) ≡ step s session asked

-- what a statement takes, and so may fail for. ROLLBACK and ROLLBACK TO take nothing, nor does a COMMIT of a session
-- that holds no reservation. SAVEPOINT, SHOW TABLE, SHOW JOURNAL, and an UPDATE of RESERVABLE columns of a row that has
-- an open reservation take memory. All others take memory and use the store
abbrev pub fails_for : State → ℕ → Statement → Failure → Bool
fails_for s session statement.Rollback f = false
fails_for s session (statement.RollbackTo name) f = false
fails_for s session statement.Commit f = nat_lt 0 (length (own session s.reservations))
fails_for s session (statement.Savepoint name) failure.Store = false
fails_for s session (statement.ShowTable name) failure.Store = false
fails_for s session (statement.ShowJournal table) failure.Store = false
fails_for s session (statement.Update text) failure.Store = not (reserves_beside s text)
fails_for s session asked f = true

-- whether a statement may fail, for memory or by the store: if no early refusal applies, and only for what it takes
abbrev pub may_fail : State → ℕ → Statement → Failure → Bool
may_fail s session asked failure =
    is_none (first_refusal (transition_of s session asked).early) && fails_for s session asked failure

-- the step, or a failure that the statement may meet, which leaves the state equal
abbrev pub StepOrRefusal : State → ℕ → Statement → Reply → State → Type 0
StepOrRefusal s session asked answer new =
    MatchOption (failure_of answer) (IsStep s session asked answer new)
    (λ failure. IsTrue (may_fail s session asked failure) × (new ≡ s))

-- the reply to an event, and the state after it. A restart keeps the catalog and the rows; nothing is open after it,
-- and the next id is 1. Or it is refused, for memory or by the store, and the state is equal
abbrev pub IsServed : State → Event → Reply → State → Type 0
IsServed s (event.Statement session asked) answer new = StepOrRefusal s session asked answer new
IsServed s event.Restart answer new =
    ((answer ≡ reply.Restarted) × (new ≡ opened s.catalog s.rows))
    ⊎ (((answer ≡ reply.Refused refusal.Memory) ⊎ (answer ≡ reply.Refused refusal.Store)) × (new ≡ s))

-- the replies to a list of events, one after another, and the state after them
abbrev pub IsRun : State → List Event → List Reply → State → Type 0
IsRun s [] [] new = new ≡ s
IsRun s [] (answer ∷ answers) new = ⊥
IsRun s (happened ∷ events) [] new = ⊥
IsRun s (happened ∷ events) (answer ∷ answers) new =
    (mid : State) × IsServed s happened answer mid × IsRun mid events answers new
