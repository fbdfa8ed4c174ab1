-- Helps: how the replies to COMMITs become entries.
use Rattle.std.specs.Prelude.{◌≡◌, ℕ, ◌+◌, Result, Ok, Err, List, [], ◌∷◌, map}
use Rattle.escrow_num.specs.declared.failure.Failure.{Failure}
use Rattle.escrow_statement.specs.declared.statement.Statement.TheVariants as statement
use Rattle.escrow_machine.specs.declared.event.Event.{Event}
use Rattle.escrow_machine.specs.declared.event.Event.TheVariants as event
use Rattle.escrow_machine.specs.declared.reply.Reply.{Reply}
use Rattle.escrow_machine.specs.declared.reply.Reply.TheVariants as reply
use Rattle.escrow_history.specs.declared.committed.Committed.{Committed}

-- a COMMIT of a session, as an event
abbrev pub commit_asked_by : ℕ → Event
commit_asked_by session = event.Statement session statement.Commit

-- COMMITs of sessions, as events
abbrev pub asked_by : List ℕ → List Event
asked_by sessions = map commit_asked_by sessions

-- no COMMIT that was served has this reply
abbrev pub IsNoCommit : Reply → Type 0
IsNoCommit answer = (count : ℕ) → ¬ (answer ≡ reply.Committed count)

-- each reply says whether its COMMIT was served; one that was has the next number
abbrev pub AreEntered : ℕ → List Reply → List (Result Committed Failure) → Type 0
AreEntered before [] [] = Unit {0}
AreEntered before (answer ∷ answers) (Ok c ∷ outcomes) =
    ((c.number ≡ before + 1) × (answer ≡ reply.Committed c.count)) × AreEntered (before + 1) answers outcomes
AreEntered before (answer ∷ answers) (Err f ∷ outcomes) = IsNoCommit answer × AreEntered before answers outcomes
AreEntered before (answer ∷ answers) [] = ⊥
AreEntered before [] (outcome ∷ outcomes) = ⊥
