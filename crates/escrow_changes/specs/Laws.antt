-- Believed: the statements of the laws in src/laws.rt.
use Rattle.std.specs.Prelude.{◌≡◌, ℕ, false, Option, Some, List}
use Rattle.escrow_num.specs.declared.value.Value.{Value}
use Rattle.escrow_statement.specs.declared.statement.AlterText.{AlterText}
use Rattle.escrow_statement.specs.declared.statement.RowText.{RowText}
use Rattle.escrow_statement.specs.declared.statement.SelectText.{SelectText}
use Rattle.escrow_statement.specs.declared.statement.Statement.TheVariants as statement
use Rattle.escrow_statement.specs.declared.statement.UpdateText.{UpdateText}
use Rattle.escrow_schema.specs.declared.plan.Plan.TheVariants as plan
use Rattle.escrow_machine.specs.Asked.{plan_of}
use Rattle.escrow_machine.specs.Reply.{is_refused}
use Rattle.escrow_machine.specs.State.{State}
use Rattle.escrow_machine.specs.Step.{step}
use Rattle.escrow_machine.specs.Valid.{IsValid}
use Rattle.escrow_changes.specs.Changes.{Selects, Deletes, Drops, Alters, Replaces}

-- each speaks of a step that isn't refused. By `refused_changes_nothing` of the machine, one that is changes nothing

abbrev pub SelectShowsRows : Type 0
SelectShowsRows = (s : State) (session : ℕ) (text : SelectText) → IsValid s
    → let after = step s session (statement.Select text) in is_refused after.0 ≡ false → Selects s text after.0 after.1

abbrev pub DeleteTakesItsRow : Type 0
DeleteTakesItsRow = (s : State) (session : ℕ) (text : RowText)
    → let after =
    step s session (statement.Delete text) in is_refused after.0 ≡ false → Deletes s session text after.0 after.1

abbrev pub DropTakesItsTable : Type 0
DropTakesItsTable = (s : State) (session : ℕ) (name : List ℕ)
    → let after =
    step s session (statement.Drop name) in is_refused after.0 ≡ false → Drops s session name after.0 after.1

abbrev pub AlterChangesChecks : Type 0
AlterChangesChecks = (s : State) (session : ℕ) (text : AlterText) → IsValid s
    → let after =
    step s session (statement.Alter text) in is_refused after.0 ≡ false → Alters s session text after.0 after.1

abbrev pub UpdateReplacesValues : Type 0
UpdateReplacesValues =
    (s : State) (session : ℕ) (text : UpdateText) (key : Value) (values : List (Option Value))
    → plan_of s text ≡ Some (plan.Plain key values)
    → let after =
    step s session (statement.Update text) in is_refused after.0 ≡ false
    → Replaces s session text key values after.0 after.1
