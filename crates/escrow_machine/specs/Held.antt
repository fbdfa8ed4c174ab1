-- Believed: what is served while COMMITs are held back, and how it ends.
use Rattle.std.specs.Prelude.{◌≡◌, ℕ, ◌||◌, ◌&&◌, Bool, true, false, if◌then◌else◌, not, nat_lt, MatchBool, Option, None, is_none, option_map, unwrap_or, List, [], ◌∷◌, ◌++◌, length}
use Rattle.std.specs.List.{AllByRecursion}
use Rattle.escrow_num.specs.declared.failure.Failure.{Failure}
use Rattle.escrow_num.specs.Refusal.{refusal_for}
use Rattle.escrow_statement.specs.declared.statement.Statement.{Statement}
use Rattle.escrow_statement.specs.declared.statement.Statement.TheVariants as statement
use Rattle.escrow_journal.specs.Reservations.{own}
use Rattle.escrow_machine.specs.declared.event.Event.{Event}
use Rattle.escrow_machine.specs.declared.event.Event.TheVariants as event
use Rattle.escrow_machine.specs.declared.reply.Reply.{Reply}
use Rattle.escrow_machine.specs.declared.reply.Reply.TheVariants as reply
use Rattle.escrow_machine.specs.State.{State}
use Rattle.escrow_machine.specs.Step.{step}

-- whether a session holds a reservation
abbrev pub holds : State → ℕ → Bool
holds s session = nat_lt 0 (length (own session s.reservations))

-- whether a statement depends only on what its own session has open
abbrev pub is_own : State → ℕ → Statement → Bool
is_own s session statement.Rollback = true
is_own s session (statement.RollbackTo name) = true
is_own s session (statement.Savepoint name) = true
is_own s session statement.Commit = not (holds s session)
is_own s session asked = false

-- whether a reply grants a reservation
abbrev pub is_grant : Reply → Bool
is_grant (reply.Reserved id) = true
is_grant _ = false

-- whether a statement may be served while the COMMITs of other sessions are held back
abbrev pub passes : State → ℕ → Statement → Bool
passes s session asked = is_own s session asked || is_grant (step s session asked).0

-- A statement of a session that was asked while COMMITs were held back. Either it was served with this reply, or it is
-- a COMMIT that is held back itself, and this is its reply once it is done.
pub record Waiting : Type 0 where
  pub session : ℕ
  pub asked : Statement
  pub answer : Reply
  pub is_held : Bool

-- the sessions whose COMMITs are held back. The last statement comes first
abbrev pub holding : List Waiting → List ℕ
holding [] = []
holding (w ∷ earlier) = if w.is_held then w.session ∷ holding earlier else holding earlier

-- the COMMIT of a session that holds reservations is held back: nothing changes
pub record IsHeldBack (session : ℕ) (asked : Statement) (answer : Reply) (before after : State) : Type 0 where
  pub is_commit : asked ≡ statement.Commit
  pub holds_some : holds before session ≡ true
  pub is_answer : answer ≡ reply.Committed (length (own session before.reservations))
  pub same : after ≡ before

-- a statement is served while COMMITs are held back
pub record IsServedBeside (session : ℕ) (asked : Statement) (answer : Reply) (before after : State) : Type 0 where
  pub may_pass : passes before session asked ≡ true
  pub is_step : (answer, after) ≡ step before session asked

-- THE STATEMENTS THAT WAIT, the last one first. Each is of a session whose COMMIT isn't held back, and it was held back
-- or served
abbrev pub IsHeldRun : State → List Waiting → State → Type 0
IsHeldRun s [] now = now ≡ s
IsHeldRun s (w ∷ earlier) now =
    (mid : State) × IsHeldRun s earlier mid × AllByRecursion (λ session. ¬ (session ≡ w.session)) (holding earlier)
    × MatchBool w.is_held (IsHeldBack w.session w.asked w.answer mid now)
    (IsServedBeside w.session w.asked w.answer mid now)

-- how each session's COMMIT ended: it was done, or it failed
abbrev pub Outcome : Type 0
Outcome = ℕ → Option Failure

-- what was asked, in order
abbrev pub events_of : List Waiting → List Event
events_of [] = []
events_of (w ∷ earlier) = events_of earlier ++ event.Statement w.session w.asked ∷ []

-- why a COMMIT that was held back failed, if the statement is one and it did
abbrev pub failure_by : Outcome → Waiting → Option Failure
failure_by outcome w = if w.is_held then outcome w.session else None

-- whether a statement is a COMMIT that was held back and is done
abbrev pub is_done : Outcome → Waiting → Bool
is_done outcome w = w.is_held && is_none (outcome w.session)

-- the reply to a statement that waited
abbrev pub answer_by : Outcome → Waiting → Reply
answer_by outcome w =
    unwrap_or (option_map (λ failure. reply.Refused (refusal_for failure)) (failure_by outcome w)) w.answer

-- the replies, in order
abbrev pub answers_by : Outcome → List Waiting → List Reply
answers_by outcome [] = []
answers_by outcome (w ∷ earlier) = answers_by outcome earlier ++ answer_by outcome w ∷ []

-- the state once the COMMITs that were held back are done, in order, but for those that failed
abbrev pub ended_by : Outcome → List Waiting → State → State
ended_by outcome [] now = now
ended_by outcome (w ∷ earlier) now =
    if is_done outcome w then (step (ended_by outcome earlier now) w.session statement.Commit).1
    else ended_by outcome earlier now
