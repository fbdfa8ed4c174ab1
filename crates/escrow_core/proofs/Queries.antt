-- SELECT, SHOW TABLE, SHOW JOURNAL and SHOW BOUNDS: how the call corresponds to the machine's step.
use Rattle.std.specs.Prelude.{◌≡◌, ℕ, ℤ, true, false, Option, Some, None, unwrap_or, option_map, option_to_list, List, [], filter}
use Rattle.std.proofs.Common.{inl, inr, refl, sym, ap, ap₂, subst, ◌∙◌, true≢false}
use Rattle.escrow_num.specs.declared.refusal.Refusal.TheVariants as refusal
use Rattle.escrow_num.specs.declared.row.Row.{Row}
use Rattle.escrow_num.specs.declared.value.RowName.{RowName}
use Rattle.escrow_num.specs.Ascending.{IsAscending}
use Rattle.escrow_num.specs.Order.{same_row}
use Rattle.escrow_statement.specs.declared.statement.RowText.{RowText}
use Rattle.escrow_statement.specs.declared.statement.SelectText.{SelectText}
use Rattle.escrow_statement.specs.declared.statement.Statement.TheVariants as statement
use Rattle.escrow_schema.specs.declared.table.TableDef.{TableDef}
use Rattle.escrow_schema.specs.Catalog.{table_named}
use Rattle.escrow_schema.specs.Print.{canonical}
use Rattle.escrow_num.specs.declared.failure.Failure.TheVariants as failure
use Rattle.escrow_machine.specs.declared.reply.Reply.{Reply}
use Rattle.escrow_machine.specs.declared.reply.Reply.TheVariants as reply
use Rattle.escrow_machine.specs.Asked.{named_by, select_reply}
use Rattle.escrow_machine.specs.Bounds.{bounds_in, bounds_reply}
use Rattle.escrow_machine.specs.Journal.{journal_reply}
use Rattle.escrow_machine.specs.Accepted.{IsAccepted, IsRefusal, PassesEarly}
use Rattle.escrow_core.specs.Serving.{is_known}
use Rattle.escrow_machine.specs.State.{State}
use Rattle.escrow_schema.specs.Rows.{row_named, row_before}
use Rattle.escrow_machine.specs.Step.{StepOrRefusal}
use Rattle.escrow_machine.specs.Transition.{transition_of}
use Rattle.escrow_rows.proofs.OneRow.{rows_named}
use Rattle.escrow_machine.proofs.Refusals.{lacking, none_there, some_found}
use Rattle.escrow_reserved.specs.Placed.{amounts_named}
use Rattle.escrow_reserved.proofs.Standing.{no_row, standing}
use Rattle.escrow_core.proofs.Serving.{late_applies, none_applies}
use Rattle.escrow_core.proofs.Served.{rule_serves, accepted_serves, memory_serves}

-- a SELECT without an early refusal is accepted
pub select_answers : (s : State) (session : ℕ) (text : SelectText) (answer : Reply) → PassesEarly s session (statement.Select text) → answer ≡ select_reply s text
    → StepOrRefusal s session (statement.Select text) answer s
unfolding transition_of
select_answers s session text answer early is =
    subst (λ (r : Reply). StepOrRefusal s session (statement.Select text) r s) (sym is) (accepted_serves s session (statement.Select text) (none_applies s session (statement.Select text) early refl))

-- at most one row has a name: the one that a lookup finds
pub selects_one : (rows : List Row) (name : RowName) (found : Option Row) → IsAscending row_before rows → found ≡ row_named rows name
    → option_to_list found ≡ filter (λ row. same_row row.name name) rows
selects_one rows name found order is = ap option_to_list is ∙ sym (rows_named rows name order)

-- a SHOW BOUNDS without an early refusal is refused only if the row does not exist
pub bounds_lack : (s : State) (session : ℕ) (text : RowText) → PassesEarly s session (statement.ShowBounds text)
    → None ≡ amounts_named s.rows (named_by s.catalog text.table text.row) → IsRefusal s session (statement.ShowBounds text) refusal.NoSuchRow
unfolding transition_of
bounds_lack s session text early none =
    let name = named_by s.catalog text.table text.row in
    late_applies s session (statement.ShowBounds text) refusal.NoSuchRow early (lacking (row_named s.rows name) refusal.NoSuchRow [] (no_row s.rows name none))

-- what is shown of the row
bounds_found : (s : State) (text : RowText) (table : TableDef) (row : Row) → table_named s.catalog text.table ≡ Some table
    → row_named s.rows (named_by s.catalog text.table text.row) ≡ Some row → bounds_reply s text ≡ bounds_in s.reservations table row.name row.amounts
bounds_found s text table row named found = rw (found, named) refl

pub bounds_answers : (s : State) (session : ℕ) (text : RowText) (table : TableDef) (amounts : List ℤ) → PassesEarly s session (statement.ShowBounds text)
    → table_named s.catalog text.table ≡ Some table → amounts_named s.rows (named_by s.catalog text.table text.row) ≡ Some amounts
    → StepOrRefusal s session (statement.ShowBounds text) (bounds_in s.reservations table (named_by s.catalog text.table text.row) amounts) s
unfolding transition_of
bounds_answers s session text table amounts early named has =
    let row = standing s.rows (named_by s.catalog text.table text.row) amounts has in
    let accepted = none_applies s session (statement.ShowBounds text) early (rw row.found refl) in
    let is : bounds_reply s text ≡ bounds_in s.reservations table row.row.name row.row.amounts = bounds_found s text table row.row named row.found in
    subst (λ (r : Reply). StepOrRefusal s session (statement.ShowBounds text) r s) (is ∙ ap₂ (bounds_in s.reservations table) row.named row.has)
    (accepted_serves s session (statement.ShowBounds text) accepted)

-- SHOW JOURNAL of all tables, of an existing one, and of one that does not exist
journal_accepted : (s : State) (session : ℕ) (table : Option (List ℕ)) → is_known s table ≡ true → IsAccepted s session (statement.ShowJournal table)
unfolding transition_of
journal_accepted s session None known = refl
journal_accepted s session (Some name) known = let found = some_found (table_named s.catalog name) known in rw found.1 refl

pub journal_serves : (s : State) (session : ℕ) (table : Option (List ℕ)) → is_known s table ≡ true
    → StepOrRefusal s session (statement.ShowJournal table) (journal_reply s table) s
unfolding transition_of
journal_serves s session table known = accepted_serves s session (statement.ShowJournal table) (journal_accepted s session table known)

pub journal_wants : (s : State) (session : ℕ) (table : Option (List ℕ)) → is_known s table ≡ true → IsRefusal s session (statement.ShowJournal table) refusal.Memory
unfolding transition_of
journal_wants s session None known = inr (failure.Memory, refl, refl)
journal_wants s session (Some name) known = let found = some_found (table_named s.catalog name) known in inr (failure.Memory, refl, rw found.1 refl)

pub journal_refuses : (s : State) (session : ℕ) (table : Option (List ℕ)) → is_known s table ≡ false → IsRefusal s session (statement.ShowJournal table) refusal.NoSuchTable
unfolding transition_of
journal_refuses s session None unknown = absurd (true≢false unknown)
journal_refuses s session (Some name) unknown = inl (rw (none_there (table_named s.catalog name) unknown) refl)

-- SHOW TABLE of a table that does not exist, and of one that does
pub show_refuses : (s : State) (session : ℕ) (name : List ℕ) → table_named s.catalog name ≡ None
    → StepOrRefusal s session (statement.ShowTable name) (reply.Refused refusal.NoSuchTable) s
unfolding transition_of
show_refuses s session name unknown = rule_serves s session (statement.ShowTable name) refusal.NoSuchTable (rw unknown refl)

show_accepted : (s : State) (session : ℕ) (name : List ℕ) (table : TableDef) → table_named s.catalog name ≡ Some table → IsAccepted s session (statement.ShowTable name)
unfolding transition_of
show_accepted s session name table named = rw named refl

pub show_serves : (s : State) (session : ℕ) (name : List ℕ) (table : TableDef) → table_named s.catalog name ≡ Some table
    → StepOrRefusal s session (statement.ShowTable name) (reply.Table (canonical table)) s
unfolding transition_of
show_serves s session name table named =
    subst (λ (o : Option TableDef). StepOrRefusal s session (statement.ShowTable name) (unwrap_or (option_map (λ (t : TableDef). reply.Table (canonical t)) o) (reply.Table [])) s)
    named (accepted_serves s session (statement.ShowTable name) (show_accepted s session name table named))

pub show_wants : (s : State) (session : ℕ) (name : List ℕ) (table : TableDef) → table_named s.catalog name ≡ Some table
    → StepOrRefusal s session (statement.ShowTable name) (reply.Refused refusal.Memory) s
unfolding transition_of
show_wants s session name table named = memory_serves s session (statement.ShowTable name) (show_accepted s session name table named) refl
