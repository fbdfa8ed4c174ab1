-- Believed: how serving a statement changes a database and its store.
use Rattle.std.specs.Prelude.{◌≡◌, ℕ, ◌≤◌, false, IsTrue, Some, Result, Ok, Err, List, take}
use Rattle.sqlite.specs.Held.{state}
use Rattle.sqlite.specs.State.{HasCleanDisk, Survives}
use Rattle.sqlite_trees.specs.declared.store.Store.{Ghosts}
use Rattle.sqlite_trees.specs.Tree.{Trees}
use Rattle.escrow_num.specs.declared.refusal.Refusal.{Refusal}
use Rattle.escrow_num.specs.declared.failure.Failure.TheVariants as failure
use Rattle.escrow_num.specs.declared.session.End.{End}
use Rattle.escrow_num.specs.Refusal.{first_refusal}
use Rattle.escrow_statement.specs.declared.statement.Statement.{Statement}
use Rattle.escrow_rows.specs.Answers.{IsUsable}
use Rattle.escrow_tables.specs.Tables.{AreHeld}
use Rattle.escrow_machine.specs.declared.reply.Reply.{Reply}
use Rattle.escrow_machine.specs.declared.reply.Reply.TheVariants as reply
use Rattle.escrow_machine.specs.Promised.{asks_store, reads_rows}
use Rattle.escrow_machine.specs.Reply.{failure_of, is_refused, tells_write}
use Rattle.escrow_machine.specs.declared.settled.Settled.{Settled}
use Rattle.escrow_machine.specs.declared.settled.Stop.{Stop}
use Rattle.escrow_machine.specs.Settle.{settled}
use Rattle.escrow_core.specs.Database.{Database}
use Rattle.escrow_machine.specs.State.{State}
use Rattle.escrow_machine.specs.Step.{step, StepOrRefusal}
use Rattle.escrow_machine.specs.Transition.{transition_of}

-- the disk has a database that holds the tables and the rows of a state
abbrev pub AreHeldOf : State → Trees → Type 0
AreHeldOf s trees = AreHeld s.catalog s.rows trees

-- the disk has a database that holds the tables and the rows after a step
abbrev pub AreAfter : State → ℕ → Statement → Trees → Type 0
AreAfter s session asked trees = AreHeldOf (step s session asked).1 trees

-- the disk has a database that holds the tables and the rows after some first entries of a plan of ends
abbrev pub AreAfterEnds : List (ℕ × End) → State → Trees → Type 0
AreAfterEnds plan s trees = (n : ℕ) × AreHeldOf (settled (take n plan) s) trees

-- the same, after at least so many first entries
abbrev pub AreAfterAtLeast : ℕ → List (ℕ × End) → State → Trees → Type 0
AreAfterAtLeast least plan s trees = (n : ℕ) × (least ≤ n) × AreHeldOf (settled (take n plan) s) trees

-- the entries of a plan that were done: all of them, or those before the place at which it stopped
abbrev pub done_of : List (ℕ × End) → Result Settled Stop → List (ℕ × End)
done_of plan (Ok done) = plan
done_of plan (Err stop) = take stop.place plan

-- A statement of a session was served. If the disk has returned what was written, the reply and the state are the
-- step's, or the statement failed as it may. If the statement is refused early, or isn't answered from rows, this holds
-- whatever the disk did. One that doesn't ask the store leaves it as it is, and isn't refused by it. A refusal changes
-- nothing, whatever the disk did. A store that a fault has shut stays shut. After a crash the disk has what it might
-- have had before, or what the step makes, if the store was open. After a reply that says that the store was written,
-- it has the tables and rows of the new state.
pub record Serves {S : Type 0} (g : Ghosts S) (session : ℕ) (asked : Statement) (old : Database S) (answer : Reply)
    (new : Database S) : Type 0 where
  pub event : HasCleanDisk (state g new.store) → StepOrRefusal old.state session asked answer new.state
  pub early : (r : Refusal) → first_refusal (transition_of old.state session asked).early ≡ Some r
      → (answer ≡ reply.Refused r) × (new ≡ old)
  pub apart : asks_store old.state session asked ≡ false → (new.store ≡ old.store)
      × ¬ (failure_of answer ≡ Some failure.Store)
  pub unread : reads_rows old.state session asked ≡ false → StepOrRefusal old.state session asked answer new.state
  pub refused : IsTrue (is_refused answer) → new.state ≡ old.state
  pub usable : IsUsable (state g new.store) → IsUsable (state g old.store)
  pub survives : Survives (state g old.store) (state g new.store)
      (λ trees. IsTrue (state g old.store).is_open × AreAfter old.state session asked trees)
  pub durable : IsTrue (tells_write answer) → HasCleanDisk (state g new.store) → (trees : Trees)
      → (state g new.store).may_leave trees → AreHeldOf new.state trees
