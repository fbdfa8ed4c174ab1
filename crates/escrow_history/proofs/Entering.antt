-- The replies to COMMITs that share a write, as entries.
use Rattle.std.proofs.Common.{◌≡◌, ℕ, ◌+◌, ◌≤◌, true, List, [], ◌∷◌, length, refl, sym, ap, subst, ◌∙◌, arith}
use Rattle.std.specs.Prelude.{Option, Some, None, MatchOption, Result, Ok, Err, IsTrue}
use Rattle.escrow_num.specs.declared.failure.Failure.{Failure}
use Rattle.escrow_num.specs.declared.failure.Failure.TheVariants as failure
use Rattle.escrow_statement.specs.declared.statement.Statement.TheVariants as statement
use Rattle.escrow_machine.specs.declared.reply.Reply.{Reply}
use Rattle.escrow_machine.specs.Held.{holds}
use Rattle.escrow_machine.specs.Reply.{failure_of}
use Rattle.escrow_machine.specs.State.{State}
use Rattle.escrow_machine.specs.Step.{IsRun, IsStep, StepOrRefusal, may_fail}
use Rattle.escrow_machine.specs.Transition.{transition_of}
use Rattle.escrow_machine.proofs.LawsSteps.{commit_answers}
use Rattle.escrow_transcript.specs.Legal.{AreSteps, AreNumbered}
use Rattle.escrow_history.specs.declared.committed.Committed.{Committed}
use Rattle.escrow_history.specs.Commits.{commits_of, AreOutcomes}
use Rattle.escrow_history.specs.Entered.{asked_by, AreEntered, IsNoCommit}

-- a reply that reports no COMMIT left the state unchanged
left_by : (s : State) (session : ℕ) (answer : Reply) (new : State) (o : Option Failure) → IsNoCommit answer
    → MatchOption o (IsStep s session statement.Commit answer new) (λ f. IsTrue (may_fail s session statement.Commit f) × (new ≡ s)) → new ≡ s
left_by s session answer new (Some f) none event = event.1
left_by s session answer new None none event =
    absurd (none _ (ap (λ (p : Reply × State). p.0) event.is_step ∙ commit_answers s session))

-- the COMMITs that were served are steps of the machine
pub entered_steps : (before : ℕ) (s new : State) (sessions : List ℕ) (answers : List Reply) (outcomes : List (Result Committed Failure)) → AreEntered before answers outcomes
    → IsRun s (asked_by sessions) answers new → AreSteps s (commits_of sessions outcomes) new
entered_steps before s new [] [] [] entered run = sym run
entered_steps before s new [] [] (o ∷ outcomes) entered run = absurd entered
entered_steps before s new [] (a ∷ answers) outcomes entered run = absurd run
entered_steps before s new (x ∷ sessions) [] outcomes entered run = absurd run
entered_steps before s new (x ∷ sessions) (a ∷ answers) [] entered run = absurd entered
entered_steps before s new (x ∷ sessions) (a ∷ answers) (Ok c ∷ outcomes) entered run = (
  refl,
  (
    run.0,
    (
      subst (λ (r : Reply). StepOrRefusal s x statement.Commit r run.0) entered.0.1 run.1,
      entered_steps (before + 1) run.0 new sessions answers outcomes entered.1 run.2,
    ),
  ),
)
entered_steps before s new (x ∷ sessions) (a ∷ answers) (Err f ∷ outcomes) entered run =
    subst (λ (mid : State). AreSteps mid (commits_of sessions outcomes) new) (left_by s x a run.0 (failure_of a) entered.0 run.1)
    (entered_steps before run.0 new sessions answers outcomes entered.1 run.2)

-- only a session that holds a reservation has a failure
fails_held : (s : State) (session : ℕ) (answer : Reply) (new : State) (o : Option Failure) → IsNoCommit answer
    → MatchOption o (IsStep s session statement.Commit answer new) (λ f. IsTrue (may_fail s session statement.Commit f) × (new ≡ s)) → holds s session ≡ true
unfolding transition_of
fails_held s session answer new (Some failure.Memory) none event = event.0
fails_held s session answer new (Some failure.Store) none event = event.0
fails_held s session answer new None none event =
    absurd (none _ (ap (λ (p : Reply × State). p.0) event.is_step ∙ commit_answers s session))

-- each COMMIT ends as its outcome says
pub entered_outcomes : (before : ℕ) (s new : State) (sessions : List ℕ) (answers : List Reply) (outcomes : List (Result Committed Failure)) → AreEntered before answers outcomes
    → IsRun s (asked_by sessions) answers new → AreOutcomes s sessions outcomes new
entered_outcomes before s new [] [] [] entered run = run
entered_outcomes before s new [] [] (o ∷ outcomes) entered run = absurd entered
entered_outcomes before s new [] (a ∷ answers) outcomes entered run = absurd run
entered_outcomes before s new (x ∷ sessions) [] outcomes entered run = absurd run
entered_outcomes before s new (x ∷ sessions) (a ∷ answers) [] entered run = absurd entered
entered_outcomes before s new (x ∷ sessions) (a ∷ answers) (Ok c ∷ outcomes) entered run = (
  run.0,
  subst (λ (r : Reply). StepOrRefusal s x statement.Commit r run.0) entered.0.1 run.1,
  entered_outcomes (before + 1) run.0 new sessions answers outcomes entered.1 run.2,
)
entered_outcomes before s new (x ∷ sessions) (a ∷ answers) (Err f ∷ outcomes) entered run = (
  fails_held s x a run.0 (failure_of a) entered.0 run.1,
  subst (λ (mid : State). AreOutcomes mid sessions outcomes new) (left_by s x a run.0 (failure_of a) entered.0 run.1)
      (entered_outcomes before run.0 new sessions answers outcomes entered.1 run.2),
)

-- their numbers are consecutive
pub entered_numbered : (before : ℕ) (sessions : List ℕ) (answers : List Reply) (outcomes : List (Result Committed Failure)) → AreEntered before answers outcomes
    → AreNumbered before (commits_of sessions outcomes)
entered_numbered before [] answers outcomes entered = tt
entered_numbered before (x ∷ sessions) answers [] entered = tt
entered_numbered before (x ∷ sessions) [] (o ∷ outcomes) entered = absurd entered
entered_numbered before (x ∷ sessions) (a ∷ answers) (Ok c ∷ outcomes) entered =
    (entered.0.0, entered_numbered (before + 1) sessions answers outcomes entered.1)
entered_numbered before (x ∷ sessions) (a ∷ answers) (Err f ∷ outcomes) entered = entered_numbered before sessions answers outcomes entered.1

-- each session requests one COMMIT
pub asked_each : (sessions : List ℕ) → length (asked_by sessions) ≡ length sessions
asked_each [] = refl
asked_each (x ∷ sessions) = let each = asked_each sessions in omega (arith, each)

-- each reply reports one
pub entered_each : (before : ℕ) (answers : List Reply) (outcomes : List (Result Committed Failure)) → AreEntered before answers outcomes → length outcomes ≡ length answers
entered_each before [] [] entered = refl
entered_each before [] (o ∷ outcomes) entered = absurd entered
entered_each before (a ∷ answers) [] entered = absurd entered
entered_each before (a ∷ answers) (Ok c ∷ outcomes) entered = let each = entered_each (before + 1) answers outcomes entered.1 in omega (arith, each)
entered_each before (a ∷ answers) (Err f ∷ outcomes) entered = let each = entered_each before answers outcomes entered.1 in omega (arith, each)

-- there is at most one for each session
pub commits_few : (sessions : List ℕ) (outcomes : List (Result Committed Failure)) → length (commits_of sessions outcomes) ≤ length sessions
commits_few [] outcomes = omega arith
commits_few (x ∷ sessions) [] = omega arith
commits_few (x ∷ sessions) (Ok c ∷ outcomes) = omega (arith, commits_few sessions outcomes)
commits_few (x ∷ sessions) (Err f ∷ outcomes) = omega (arith, commits_few sessions outcomes)
