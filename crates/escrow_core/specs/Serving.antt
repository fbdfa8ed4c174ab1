-- Helps: definitions for private contracts.
use Rattle.std.specs.Prelude.{◌≡◌, ℕ, Bool, true, Option, Some, None, Result, Ok, Err, is_none, is_some, List, [], ◌∷◌}
use Rattle.std.specs.Result.{result_err}
use Rattle.escrow_schema.specs.Catalog.{table_named}
use Rattle.sqlite.specs.Held.{state}
use Rattle.sqlite.specs.State.{HasCleanDisk, Survives}
use Rattle.sqlite_trees.specs.declared.store.Store.{Ghosts}
use Rattle.escrow_rows.specs.Answers.{IsUsable}
use Rattle.escrow_core.specs.Database.{Database}
use Rattle.escrow_core.specs.Serves.{AreHeldOf, Serves}
use Rattle.sqlite_trees.specs.Tree.{Trees}
use Rattle.escrow_num.specs.declared.refusal.Refusal.{Refusal}
use Rattle.escrow_num.specs.declared.refusal.Refusal.TheVariants as refusal
use Rattle.escrow_num.specs.declared.session.End.{End}
use Rattle.escrow_num.specs.declared.failure.Failure.{Failure}
use Rattle.escrow_num.specs.declared.row.Row.{Row}
use Rattle.escrow_num.specs.Refusal.{refuse_if, first_refusal, refusal_for}
use Rattle.escrow_statement.specs.declared.statement.RowText.{RowText}
use Rattle.escrow_statement.specs.declared.statement.Statement.{Statement}
use Rattle.escrow_machine.specs.declared.reply.Reply.{Reply}
use Rattle.escrow_machine.specs.declared.reply.Reply.TheVariants as reply
use Rattle.escrow_machine.specs.Asked.{key_refusal_of}
use Rattle.escrow_machine.specs.Settle.{after_end}
use Rattle.escrow_machine.specs.State.{State}
use Rattle.escrow_machine.specs.Step.{step}
use Rattle.escrow_machine.specs.Transition.{transition_of}

-- A call read the store: the state stays as it is, and a store that a fault has shut stays shut.
pub record OnlyReads {S : Type 0} (g : Ghosts S) (old new : Database S) : Type 0 where
  pub same : new.state ≡ old.state
  pub usable : IsUsable (state g new.store) → IsUsable (state g old.store)
  pub survives : Survives (state g old.store) (state g new.store) (λ _. ⊥)

-- whether the table that a SHOW JOURNAL names exists, if it names one
abbrev pub is_known : State → Option (List ℕ) → Bool
is_known s None = true
is_known s (Some name) = is_some (table_named s.catalog name)

-- the disk has a database that holds the tables and the rows after the end of a session's transaction
abbrev pub AreAfterEnd : State → ℕ → End → Trees → Type 0
AreAfterEnd s session end trees = AreHeldOf (after_end s session end) trees

-- the reply to a statement: the one that was granted, or the refusal
abbrev pub answer_of : Result Reply Refusal → Reply
answer_of (Ok answer) = answer
answer_of (Err refusal) = reply.Refused refusal

-- a statement of a session is served, and the result of a call is its answer
abbrev pub Answers : {S : Type 0} → Ghosts S → ℕ → Statement → Database S → Result Reply Refusal → Database S → Type 0
Answers g session asked old result new = Serves g session asked old (answer_of result) new

-- if the disk has returned what was written, and the machine refuses a statement, the result of a call is that refusal
abbrev pub TellsRefusal : {S : Type 0} → Ghosts S → ℕ → Statement → Database S → Result Reply Refusal → Database S
    → Type 0
TellsRefusal g session asked old result new =
    HasCleanDisk (state g new.store) → (r : Refusal) → (step old.state session asked).0 ≡ reply.Refused r
    → result ≡ Err r

-- a call fails exactly if a statement is refused early, with its first early refusal
abbrev pub IsEarly : {T : Type 0} → State → ℕ → Statement → Result T Refusal → Type 0
IsEarly s session asked result = result_err result ≡ first_refusal (transition_of s session asked).early

-- why the row that a text names isn't looked for: there is no such table, or its WHERE names no row
abbrev pub row_refusal : State → RowText → Option Refusal
row_refusal s text =
    first_refusal (refuse_if (is_none (table_named s.catalog text.table)) refusal.NoSuchTable
    ∷ key_refusal_of s text.table text.row ∷ [])

-- a refusal is a failure
abbrev pub IsFailure : Refusal → Type 0
IsFailure r = (f : Failure) × (r ≡ refusal_for f)

-- why a new row isn't added: a row of its name exists, or else another reason
abbrev pub unless_stands : Option Row → Refusal → Refusal
unless_stands None other = other
unless_stands (Some row) other = refusal.RowExists
