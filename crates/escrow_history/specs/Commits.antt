-- Believed: how COMMITs that share a write change a database and its transcript.
use Rattle.std.specs.Prelude.{◌≡◌, ℕ, ◌+◌, true, Result, Ok, Err, List, [], ◌∷◌, ◌++◌, length}
use Rattle.sqlite.specs.Held.{state}
use Rattle.sqlite.specs.State.{HasCleanDisk}
use Rattle.sqlite_trees.specs.declared.store.Store.{Ghosts}
use Rattle.escrow_num.specs.declared.failure.Failure.{Failure}
use Rattle.escrow_statement.specs.declared.statement.Statement.TheVariants as statement
use Rattle.escrow_machine.specs.declared.reply.Reply.TheVariants as reply
use Rattle.escrow_machine.specs.Held.{holds}
use Rattle.escrow_machine.specs.State.{State}
use Rattle.escrow_machine.specs.Step.{IsStep}
use Rattle.escrow_transcript.specs.declared.entry.Entry.{Entry}
use Rattle.escrow_transcript.specs.Legal.{AreSteps, AreNumbered}
use Rattle.escrow_history.specs.declared.committed.Committed.{Committed}
use Rattle.escrow_history.specs.Audited.{Audited}

-- the entry of a COMMIT that was served
abbrev pub commit_of : ℕ → Committed → Entry
commit_of session c =
    record { number = c.number; session = session; statement = statement.Commit; reply = reply.Committed c.count }

-- the entries of COMMITs, in the order of their sessions: one for each that was served, and none for one that wasn't
abbrev pub commits_of : List ℕ → List (Result Committed Failure) → List Entry
commits_of (session ∷ sessions) (Ok c ∷ outcomes) = commit_of session c ∷ commits_of sessions outcomes
commits_of (session ∷ sessions) (Err f ∷ outcomes) = commits_of sessions outcomes
commits_of (session ∷ sessions) [] = []
commits_of [] outcomes = []

-- How COMMITs of sessions end, one after another, from a state to another. One that is served is a step of the machine:
-- it applies what its session holds, and counts it. One that fails, for memory or by the store, is of a session that
-- holds a reservation, and leaves the state.
abbrev pub AreOutcomes : State → List ℕ → List (Result Committed Failure) → State → Type 0
AreOutcomes s [] [] new = new ≡ s
AreOutcomes s (session ∷ sessions) (Ok c ∷ outcomes) new =
    (mid : State) × IsStep s session statement.Commit (reply.Committed c.count) mid
    × AreOutcomes mid sessions outcomes new
AreOutcomes s (session ∷ sessions) (Err f ∷ outcomes) new =
    (holds s session ≡ true) × AreOutcomes s sessions outcomes new
AreOutcomes s (session ∷ sessions) [] new = ⊥
AreOutcomes s [] (outcome ∷ outcomes) new = ⊥

-- each COMMIT that was served names its session
abbrev pub NameTheirs : List ℕ → List (Result Committed Failure) → Type 0
NameTheirs (session ∷ sessions) (Ok c ∷ outcomes) = (c.session ≡ session) × NameTheirs sessions outcomes
NameTheirs (session ∷ sessions) (Err f ∷ outcomes) = NameTheirs sessions outcomes
NameTheirs (session ∷ sessions) [] = Unit {0}
NameTheirs [] outcomes = Unit {0}

-- Sessions asked for COMMITs, one after another, and each has its outcome. If the disk returned what was written, only
-- sessions that held a reservation have a failure, and those that were served are steps of the machine, from the state
-- before to the state after. They are the new entries, with the next numbers, and name their sessions.
pub record Commits {S : Type 0} (g : Ghosts S) (old : Audited S) (sessions : List ℕ)
    (outcomes : List (Result Committed Failure)) (new : Audited S) : Type 0 where
  pub each : length outcomes ≡ length sessions
  pub steps : HasCleanDisk (state g new.store) → AreSteps old.state (commits_of sessions outcomes) new.state
  pub told : HasCleanDisk (state g new.store) → AreOutcomes old.state sessions outcomes new.state
  pub named : NameTheirs sessions outcomes
  pub numbered : AreNumbered (old.base.before + length old.entries) (commits_of sessions outcomes)
  pub base : new.base ≡ old.base
  pub entries : new.entries ≡ old.entries ++ commits_of sessions outcomes
