-- What holds if a statement is accepted, grouped by statement.
use Rattle.std.specs.Prelude.{◌≡◌, ℕ, ◌<◌, ℤ, false, unwrap_or, is_none, nat_le, option_map, option_and_then, Option, Some, None, List, [], ◌∷◌, length, map, Result, Ok, Err}
use Rattle.std.specs.List.{AllByRecursion}
use Rattle.std.specs.Result.{result_ok, result_err}
use Rattle.std.proofs.Common.{refl, sym, ap, subst, ◌∙◌}
use Rattle.escrow_num.specs.declared.refusal.Refusal.{Refusal}
use Rattle.escrow_num.specs.declared.refusal.Refusal.TheVariants as refusal
use Rattle.escrow_num.specs.declared.reservation.Reservation.{Reservation}
use Rattle.escrow_num.specs.declared.row.Row.{Row}
use Rattle.escrow_num.specs.declared.value.Value.{Value}
use Rattle.escrow_num.specs.Refusal.{refuse_if, first_refusal}
use Rattle.escrow_num.specs.Reservation.{deltas}
use Rattle.escrow_statement.specs.declared.statement.CheckText.{CheckText}
use Rattle.escrow_statement.specs.declared.statement.CreateText.{CreateText}
use Rattle.escrow_statement.specs.declared.statement.AlterText.{AlterText}
use Rattle.escrow_statement.specs.declared.statement.RowText.{RowText}
use Rattle.escrow_statement.specs.declared.statement.InsertText.{InsertText}
use Rattle.escrow_statement.specs.declared.statement.UpdateText.{UpdateText}
use Rattle.escrow_statement.specs.declared.statement.Statement.TheVariants as statement
use Rattle.escrow_statement.specs.declared.statement.TableChange.{TableChange}
use Rattle.escrow_statement.specs.declared.statement.TableChange.TheVariants as change
use Rattle.escrow_checks.specs.Grant.{broken}
use Rattle.escrow_checks.specs.declared.spread.TheConstants.Spread.{MAX_OPEN}
use Rattle.escrow_schema.specs.declared.plan.Plan.{Plan}
use Rattle.escrow_schema.specs.declared.plan.Plan.TheVariants as plan
use Rattle.escrow_schema.specs.declared.table.TableDef.{TableDef}
use Rattle.escrow_schema.specs.Catalog.{table_named}
use Rattle.escrow_schema.specs.Definition.{definition_of}
use Rattle.escrow_schema.specs.Fit.{inserted_row}
use Rattle.escrow_schema.specs.Plan.{planned}
use Rattle.escrow_schema.specs.declared.catalog.TheConstants.Catalog.{MAX_TABLES}
use Rattle.escrow_schema.specs.declared.table.TheConstants.TableDef.{MAX_ROWS}
use Rattle.escrow_journal.specs.declared.journal.TheConstants.Journal.{MAX_SAVEPOINTS}
use Rattle.escrow_journal.specs.Reservations.{own_savepoints}
use Rattle.escrow_journal.specs.Savepoints.{without_savepoint}
use Rattle.escrow_machine.specs.Accepted.{IsAccepted}
use Rattle.escrow_machine.specs.State.{State, open_in, is_reserved, is_table_reserved, on_row}
use Rattle.escrow_schema.specs.Rows.{row_named, rows_of, changes_to}
use Rattle.escrow_machine.specs.Transition.{transition_of, alter_refusals, update_refusals}
use Rattle.escrow_machine.specs.Altered.{table_with_check, table_without_check, added_violation, drop_refusal_of, table_altered}
use Rattle.escrow_machine.specs.Asked.{new_row, insert_violation, plan_of, plan_refusal_of, row_name, reservation_from, violation_of, named_by}
use Rattle.escrow_journal.proofs.Free.{IsFree, is_free}
use Rattle.escrow_machine.specs.Step.{refusals}
use Rattle.escrow_machine.proofs.Refusals.{all_passed, failed, present, absent, unbroken, below}

-- what holds if a table is created
pub record CreateStands (s : State) (session : ℕ) (text : CreateText) : Type 0 where
  pub table : TableDef
  pub defines : definition_of text ≡ Some table
  pub new : table_named s.catalog text.table ≡ None
  pub room : length s.catalog < MAX_TABLES

pub create_stands : (s : State) (session : ℕ) (text : CreateText) → IsAccepted s session (statement.Create text) → CreateStands s session text
unfolding transition_of
create_stands s session text accepted =
    let none = all_passed (refusals (transition_of s session (statement.Create text))) accepted in
    let table = present (definition_of text) refusal.BadDefinition none.1.1.0 in
    record {
      table = table.0;
      defines = table.1;
      new = absent (table_named s.catalog text.table) refusal.TableExists none.1.0;
      room = below MAX_TABLES (length s.catalog) (failed (nat_le MAX_TABLES (length s.catalog)) refusal.TooManyTables none.1.1.1.0);
    }

-- what holds if a row is inserted
pub record InsertStands (s : State) (session : ℕ) (text : InsertText) : Type 0 where
  pub table : TableDef
  pub named : table_named s.catalog text.table ≡ Some table
  pub row : Row
  pub made : new_row s text ≡ Some row
  pub fits : inserted_row table text ≡ Some row
  pub new : row_named s.rows row.name ≡ None
  pub room : length (rows_of s.rows text.table) < MAX_ROWS
  pub safe : broken table.checks row.amounts [] [] ≡ None

-- the row is built for its table and judged by the table's checks
fits_in : (s : State) (text : InsertText) (table : TableDef) (row : Row) → table_named s.catalog text.table ≡ Some table → new_row s text ≡ Some row
    → inserted_row table text ≡ Some row
fits_in s text table row named made = rw named at made

safe_in : (s : State) (text : InsertText) (table : TableDef) (row : Row) → table_named s.catalog text.table ≡ Some table → inserted_row table text ≡ Some row
    → insert_violation s text ≡ None → broken table.checks row.amounts [] [] ≡ None
safe_in s text table row named fits unbroken_all = rw (named, fits) at unbroken_all

pub insert_stands : (s : State) (session : ℕ) (text : InsertText) → IsAccepted s session (statement.Insert text) → InsertStands s session text
unfolding transition_of
insert_stands s session text accepted =
    let stands : Row → Option Row = λ r. row_named s.rows r.name in
    let many = length (rows_of s.rows text.table) in
    let none = all_passed (refusals (transition_of s session (statement.Insert text))) accepted in
    let table = present (table_named s.catalog text.table) refusal.NoSuchTable none.1.0 in
    let row = present (new_row s text) refusal.BadValue none.1.1.0 in
    let new : option_and_then stands (new_row s text) ≡ None = absent (option_and_then stands (new_row s text)) refusal.RowExists none.1.1.1.0 in
    let fits = fits_in s text table.0 row.0 table.1 row.1 in
    record {
      table = table.0;
      named = table.1;
      row = row.0;
      made = row.1;
      fits = fits;
      new = subst (λ (o : Option Row). option_and_then stands o ≡ None) row.1 new;
      room = below MAX_ROWS many (failed (nat_le MAX_ROWS many) refusal.TableFull none.1.1.1.1.0);
      safe = safe_in s text table.0 row.0 table.1 fits (unbroken (insert_violation s text) none.1.1.1.1.1.0);
    }

-- what holds if a table is dropped
pub record DropStands (s : State) (name : List ℕ) : Type 0 where
  pub table : TableDef
  pub named : table_named s.catalog name ≡ Some table
  pub free : is_table_reserved s name ≡ false

pub drop_stands : (s : State) (session : ℕ) (name : List ℕ) → IsAccepted s session (statement.Drop name) → DropStands s name
unfolding transition_of
drop_stands s session name accepted =
    let none = all_passed (refusals (transition_of s session (statement.Drop name))) accepted in
    let table = present (table_named s.catalog name) refusal.NoSuchTable none.1.0 in
    record { table = table.0; named = table.1; free = failed (is_table_reserved s name) refusal.TableReserved none.1.1.0 }

-- what holds if a table is altered
pub record AlterStands (s : State) (text : AlterText) : Type 0 where
  pub table : TableDef
  pub named : table_named s.catalog text.table ≡ Some table
  pub made : TableDef
  pub makes : table_altered s text.table text.change ≡ Some made
  pub safe : AllByRecursion (λ o. o ≡ None) (alter_refusals s text.table text.change)

alter_makes : (s : State) (name : List ℕ) (asked : TableChange) → drop_refusal_of s name asked ≡ None → AllByRecursion (λ o. o ≡ None) (alter_refusals s name asked)
    → (made : TableDef) × (table_altered s name asked ≡ Some made)
alter_makes s name (change.Add text) early late = present (table_with_check s name text) refusal.BadDefinition late.0
alter_makes s name (change.Drop check) early late = present (table_without_check s name check) refusal.NoSuchConstraint early

pub alter_stands : (s : State) (session : ℕ) (text : AlterText) → IsAccepted s session (statement.Alter text) → AlterStands s text
unfolding transition_of
alter_stands s session text accepted =
    let none = all_passed (refusals (transition_of s session (statement.Alter text))) accepted in
    let table = present (table_named s.catalog text.table) refusal.NoSuchTable none.1.0 in
    let made = alter_makes s text.table text.change none.1.1.0 none.1.1.1 in
    record { table = table.0; named = table.1; made = made.0; makes = made.1; safe = none.1.1.1 }

-- the new checks are not broken
pub add_unbroken : (s : State) (name : List ℕ) (text : CheckText) → AllByRecursion (λ o. o ≡ None) (alter_refusals s name (change.Add text)) → added_violation s name text ≡ None
add_unbroken s name text none = unbroken (added_violation s name text) none.1.0

-- what holds if a row is deleted
pub record DeleteStands (s : State) (text : RowText) : Type 0 where
  pub row : Row
  pub found : row_named s.rows (named_by s.catalog text.table text.row) ≡ Some row
  pub free : is_reserved s (named_by s.catalog text.table text.row) ≡ false

pub delete_stands : (s : State) (session : ℕ) (text : RowText) → IsAccepted s session (statement.Delete text) → DeleteStands s text
unfolding transition_of
delete_stands s session text accepted =
    let name = named_by s.catalog text.table text.row in
    let none = all_passed (refusals (transition_of s session (statement.Delete text))) accepted in
    let row = present (row_named s.rows name) refusal.NoSuchRow none.1.1.1.0 in
    record { row = row.0; found = row.1; free = failed (is_reserved s name) refusal.RowReserved none.1.1.1.1.0 }

-- the table of an UPDATE that has no early refusal, and its plan
pub record UpdatePlan (s : State) (text : UpdateText) : Type 0 where
  pub table : TableDef
  pub named : table_named s.catalog text.table ≡ Some table
  pub plan : Plan
  pub planned : planned table text ≡ Ok plan
  pub is : plan_of s text ≡ Some plan

plan_at : (s : State) (text : UpdateText) (table : TableDef) (asked : Result Plan Refusal) → table_named s.catalog text.table ≡ Some table
    → planned table text ≡ asked → result_err asked ≡ None → UpdatePlan s text
plan_at s text table (Ok p) named is none =
    let found : plan_of s text ≡ Some p = ap (option_and_then (λ (t : TableDef). result_ok (planned t text))) named ∙ ap result_ok is in
    record { table = table; named = named; plan = p; planned = is; is = found }
plan_at s text table (Err r) named is none = absurd (cc)

pub plan_there : (s : State) (text : UpdateText) (late : List (Option Refusal))
    → first_refusal (refuse_if (is_none (table_named s.catalog text.table)) refusal.NoSuchTable ∷ plan_refusal_of s text ∷ late) ≡ None → UpdatePlan s text
plan_there s text late accepted =
    let none = all_passed (refuse_if (is_none (table_named s.catalog text.table)) refusal.NoSuchTable ∷ plan_refusal_of s text ∷ late) accepted in
    let table = present (table_named s.catalog text.table) refusal.NoSuchTable none.0 in
    let at_table : result_err (planned table.0 text) ≡ None =
    subst (λ (o : Option TableDef). option_and_then (λ (t : TableDef). result_err (planned t text)) o ≡ None) table.1 none.1.0 in
    plan_at s text table.0 (planned table.0 text) table.1 refl at_table

-- an accepted UPDATE has a plan, and no late refusal applies to it
pub update_plan : (s : State) (session : ℕ) (text : UpdateText) → IsAccepted s session (statement.Update text) → UpdatePlan s text
unfolding transition_of
update_plan s session text accepted = plan_there s text (unwrap_or (option_map (update_refusals s session text.table) (plan_of s text)) []) accepted

late_passed : (s : State) (session : ℕ) (text : UpdateText) (asked : Plan) → plan_of s text ≡ Some asked → IsAccepted s session (statement.Update text)
    → AllByRecursion (λ o. o ≡ None) (update_refusals s session text.table asked)
unfolding transition_of
late_passed s session text asked is accepted =
    let none = all_passed (refusals (transition_of s session (statement.Update text))) accepted in
    subst (λ (o : Option Plan). AllByRecursion (λ r. r ≡ None) (unwrap_or (option_map (update_refusals s session text.table) o) [])) is none.1.1

-- what holds if a reservation is granted
pub record ReserveStands (s : State) (session : ℕ) (text : UpdateText) (key : Value) (changes : List (Option ℤ)) : Type 0 where
  pub table : TableDef
  pub named : table_named s.catalog text.table ≡ Some table
  pub planned : planned table text ≡ Ok (plan.Reserve key changes)
  pub row : Row
  pub found : row_named s.rows (row_name text.table key) ≡ Some row
  pub row_room : length (on_row (row_name text.table key) s.reservations) < MAX_OPEN
  pub free : IsFree session (open_in s)
  pub safe : broken table.checks row.amounts (deltas changes) (map (changes_to row) s.reservations) ≡ None

-- this plan is the one that the UPDATE asks for
same_plan : (s : State) (text : UpdateText) (asked : Plan) (p : UpdatePlan s text) → plan_of s text ≡ Some asked → planned p.table text ≡ Ok asked
same_plan s text asked p is =
    let both : Some p.plan ≡ Some asked = sym p.is ∙ is in
    let same : p.plan ≡ asked = cc in
    p.planned ∙ ap (λ (x : Plan). Ok x) same

pub reserve_stands : (s : State) (session : ℕ) (text : UpdateText) (key : Value) (changes : List (Option ℤ)) → plan_of s text ≡ Some (plan.Reserve key changes)
    → IsAccepted s session (statement.Update text) → ReserveStands s session text key changes
reserve_stands s session text key changes is accepted =
    let name = row_name text.table key in
    let r : Reservation = reservation_from s session name changes in
    let p = update_plan s session text accepted in
    let none = late_passed s session text (plan.Reserve key changes) is accepted in
    let row = present (row_named s.rows name) refusal.NoSuchRow none.0 in
    let none_broken : violation_of s r ≡ None = unbroken (violation_of s r) none.1.1.1.0 in
    let held = length (on_row name s.reservations) in
    let in_table : option_and_then (λ (x : Row). broken p.table.checks x.amounts (deltas changes) (map (changes_to x) s.reservations)) (row_named s.rows name) ≡ None =
    subst (λ (o : Option TableDef). option_and_then (λ (t : TableDef). option_and_then (λ (x : Row). broken t.checks x.amounts (deltas changes) (map (changes_to x) s.reservations)) (row_named s.rows name)) o ≡ None)
    p.named none_broken in
    record {
      table = p.table;
      named = p.named;
      planned = same_plan s text (plan.Reserve key changes) p is;
      row = row.0;
      found = row.1;
      row_room = below MAX_OPEN held (failed (nat_le MAX_OPEN held) refusal.TooManyReservations none.1.0);
      free = is_free session (open_in s) none.1.1.0;
      safe = subst (λ (o : Option Row). option_and_then (λ (x : Row). broken p.table.checks x.amounts (deltas changes) (map (changes_to x) s.reservations)) o ≡ None) row.1 in_table;
    }

-- what holds if plain values are replaced
pub record PlainStands (s : State) (text : UpdateText) (key : Value) (values : List (Option Value)) : Type 0 where
  pub table : TableDef
  pub named : table_named s.catalog text.table ≡ Some table
  pub planned : planned table text ≡ Ok (plan.Plain key values)
  pub row : Row
  pub found : row_named s.rows (row_name text.table key) ≡ Some row

pub plain_stands : (s : State) (session : ℕ) (text : UpdateText) (key : Value) (values : List (Option Value)) → plan_of s text ≡ Some (plan.Plain key values)
    → IsAccepted s session (statement.Update text) → PlainStands s text key values
plain_stands s session text key values is accepted =
    let name = row_name text.table key in
    let p = update_plan s session text accepted in
    let row = present (row_named s.rows name) refusal.NoSuchRow (late_passed s session text (plan.Plain key values) is accepted).1.0 in
    record { table = p.table; named = p.named; planned = same_plan s text (plan.Plain key values) p is; row = row.0; found = row.1 }

-- an accepted SAVEPOINT has room for one more
pub savepoint_room : (s : State) (session : ℕ) (name : List ℕ) → IsAccepted s session (statement.Savepoint name)
    → length (own_savepoints session (without_savepoint session name s.savepoints)) < MAX_SAVEPOINTS
unfolding transition_of
savepoint_room s session name accepted =
    let others = length (own_savepoints session (without_savepoint session name s.savepoints)) in
    let none = all_passed (refusals (transition_of s session (statement.Savepoint name))) accepted in
    below MAX_SAVEPOINTS others (failed (nat_le MAX_SAVEPOINTS others) refusal.TooManySavepoints none.0)
