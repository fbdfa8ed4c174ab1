-- Believed: how a call changes a database and its transcript.
use Rattle.std.specs.Prelude.{◌≡◌, ◌⊎◌, ℕ, ◌+◌, false, IsTrue, None, [], ◌∷◌, ◌++◌, length}
use Rattle.sqlite.specs.Held.{state}
use Rattle.sqlite.specs.State.{HasCleanDisk}
use Rattle.sqlite_trees.specs.declared.store.Store.{Ghosts}
use Rattle.escrow_num.specs.declared.refusal.Refusal.{Refusal}
use Rattle.escrow_num.specs.declared.refusal.Refusal.TheVariants as refusal
use Rattle.escrow_num.specs.Refusal.{refusal_for}
use Rattle.escrow_statement.specs.declared.statement.Statement.{Statement}
use Rattle.escrow_statement.specs.Copies.{holds_memory}
use Rattle.escrow_machine.specs.declared.reply.Reply.{Reply}
use Rattle.escrow_machine.specs.declared.reply.Reply.TheVariants as reply
use Rattle.escrow_machine.specs.Promised.{is_promised, reads_rows}
use Rattle.escrow_machine.specs.Reply.{failure_of}
use Rattle.escrow_machine.specs.State.{State}
use Rattle.escrow_machine.specs.Step.{IsStep}
use Rattle.escrow_history.specs.declared.served.Unserved.{Unserved}
use Rattle.escrow_history.specs.declared.served.Unserved.TheVariants.{Full, Failed}
use Rattle.escrow_history.specs.Audited.{Audited}

-- whether a reply is an answer: it doesn't say that the statement wasn't served, as 51, 52 and 60 do
pub record IsAnswer (answer : Reply) : Type 0 where
  pub of_memory : ¬ (answer ≡ reply.Refused refusal.Memory)
  pub of_room : ¬ (answer ≡ reply.Refused refusal.TranscriptFull)
  pub of_store : ¬ (answer ≡ reply.Refused refusal.Store)

-- A statement of a session was served. If the disk returned what was written, this was a step of the machine. The
-- statement is the one new entry, with the next number. The reply is an answer, whatever the disk did.
pub record Appends {S : Type 0} (g : Ghosts S) (old : Audited S) (session : ℕ) (asked : Statement) (number : ℕ)
    (answer : Reply) (new : Audited S) : Type 0 where
  pub step : HasCleanDisk (state g new.store) → IsStep old.state session asked answer new.state
  pub succeeds : failure_of answer ≡ None
  pub answers : IsAnswer answer
  pub number_is : number ≡ old.base.before + length old.entries + 1
  pub base : new.base ≡ old.base
  pub entries : new.entries ≡ old.entries
      ++ (record { number = number; session = session; statement = asked; reply = answer }) ∷ []

-- Nothing changed: neither the base and the entries, nor, if the disk returned what was written, the state.
pub record Stays {S : Type 0} (g : Ghosts S) (old new : Audited S) : Type 0 where
  pub base : new.base ≡ old.base
  pub entries : new.entries ≡ old.entries
  pub unchanged : HasCleanDisk (state g new.store) → new.state ≡ old.state

-- A statement needs nothing but an entry: it is served however little memory there is and whatever the store does, and
-- a copy of it takes no memory. These are ROLLBACK, ROLLBACK TO, and COMMIT of a session that holds no reservation; and
-- any statement without lists and texts whose refusal needs neither memory nor the store, as 21 to DROP TABLE.
abbrev pub NeedsAnEntry : State → ℕ → Statement → Type 0
NeedsAnEntry s session asked = IsTrue (is_promised s session asked) × (holds_memory asked ≡ false)

-- A statement that the store can't refuse, whatever it does: one that isn't answered from rows, which are ROLLBACK,
-- ROLLBACK TO, SAVEPOINT, SHOW TABLE, SHOW JOURNAL, and a COMMIT of a session that holds no reservation; or one whose
-- refusal needs neither memory nor the store.
abbrev pub IsApart : State → ℕ → Statement → Type 0
IsApart s session asked = (reads_rows s session asked ≡ false) ⊎ IsTrue (is_promised s session asked)

-- the refusals that report a failure: 51 and 60
abbrev pub IsFailed : Refusal → Type 0
IsFailed r = (r ≡ refusal.Memory) ⊎ (r ≡ refusal.Store)

-- why no transcript begins: something is open (26), or a failure (51, 60)
abbrev pub IsNotBegun : Refusal → Type 0
IsNotBegun r = (r ≡ refusal.TransactionOpen) ⊎ IsFailed r

-- why no transcript is handed out: something is open (26), too few numbers are left (52), or a failure (51, 60)
abbrev pub IsNotDrained : Refusal → Type 0
IsNotDrained r = (r ≡ refusal.TransactionOpen) ⊎ ((r ≡ refusal.TranscriptFull) ⊎ IsFailed r)

-- why no room is taken for entries: a transcript may not have so many (52), or memory is refused (51)
abbrev pub IsNoRoom : Refusal → Type 0
IsNoRoom r = (r ≡ refusal.TranscriptFull) ⊎ (r ≡ refusal.Memory)

-- the refusal that says why a statement wasn't served
abbrev pub unserved_as : Unserved → Refusal
unserved_as Full = refusal.TranscriptFull
unserved_as (Failed failure) = refusal_for failure
