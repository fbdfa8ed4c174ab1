-- Believed: what an ALTER TABLE asks of a state.
use Rattle.std.specs.Prelude.{ℕ, ◌+◌, Option, None, is_none, option_map, option_and_then, unwrap_or, List, [], ◌∷◌, length, map}
use Rattle.escrow_num.specs.declared.refusal.Violation.{Violation}
use Rattle.escrow_num.specs.declared.refusal.Refusal.{Refusal}
use Rattle.escrow_num.specs.declared.refusal.Refusal.TheVariants as refusal
use Rattle.escrow_num.specs.declared.reservation.Reservation.{Reservation}
use Rattle.escrow_num.specs.declared.row.Row.{Row}
use Rattle.escrow_num.specs.Refusal.{refuse_if}
use Rattle.escrow_num.specs.Span.{first_of_two}
use Rattle.escrow_statement.specs.declared.statement.CheckText.{CheckText}
use Rattle.escrow_statement.specs.declared.statement.TableChange.{TableChange}
use Rattle.escrow_statement.specs.declared.statement.TableChange.TheVariants as change
use Rattle.escrow_checks.specs.declared.check.Check.{Check}
use Rattle.escrow_checks.specs.Checks.{checks_of_conditions}
use Rattle.escrow_checks.specs.Grant.{broken}
use Rattle.escrow_schema.specs.declared.table.TableDef.{TableDef}
use Rattle.escrow_schema.specs.Altered.{with_check, without_check, with_altered}
use Rattle.escrow_schema.specs.Catalog.{table_named}
use Rattle.escrow_schema.specs.Column.{reservables, names_of, scales_of}
use Rattle.escrow_schema.specs.Print.{declared_checks}
use Rattle.escrow_schema.specs.Rows.{rows_of, changes_to}
use Rattle.escrow_machine.specs.State.{State}

-- ADD

-- the table of a name with the checks of one more CHECK, if the table exists and may have them
abbrev pub table_with_check : State → List ℕ → CheckText → Option TableDef
table_with_check s name text = option_and_then (λ table. with_check table text) (table_named s.catalog name)

-- the checks that a CHECK adds to a table, after the declared ones, if its conditions follow the rules
abbrev pub new_checks : TableDef → CheckText → Option (List Check)
new_checks table text =
    let columns = reservables table.columns in
    checks_of_conditions (names_of columns) (scales_of columns) text.name 1
    (length (declared_checks table) + 1) text.conditions

-- what rows break of checks, over every choice of the open reservations, including the empty one. The first row, in
-- their order, that breaks a check decides, and the first check that it breaks
abbrev pub rows_violation : List Check → List Reservation → List Row → Option Violation
rows_violation checks reservations [] = None
rows_violation checks reservations (row ∷ rows) =
    first_of_two (broken checks row.amounts [] (map (changes_to row) reservations))
    (rows_violation checks reservations rows)

-- what the rows of a table, in order of key, break of the checks that a CHECK adds to it
abbrev pub added_violation : State → List ℕ → CheckText → Option Violation
added_violation s name text =
    option_and_then (λ table.
    option_and_then (λ checks. rows_violation checks s.reservations (rows_of s.rows name)) (new_checks table text))
    (table_named s.catalog name)

-- DROP CONSTRAINT

-- the table of a name without its declared check of another name, if both exist
abbrev pub table_without_check : State → List ℕ → List ℕ → Option TableDef
table_without_check s name check = option_and_then (λ table. without_check table check) (table_named s.catalog name)

-- why a change can't drop a constraint: the table has no declared check of its name
abbrev pub drop_refusal_of : State → List ℕ → TableChange → Option Refusal
drop_refusal_of s name (change.Add text) = None
drop_refusal_of s name (change.Drop check) =
    refuse_if (is_none (table_without_check s name check)) refusal.NoSuchConstraint

-- BOTH

-- the table that a change makes from the one of a name, if it makes one
abbrev pub table_altered : State → List ℕ → TableChange → Option TableDef
table_altered s name (change.Add text) = table_with_check s name text
table_altered s name (change.Drop check) = table_without_check s name check

-- the state with an altered table, if there is one, in place of the one of its name
abbrev pub after_alter : State → Option TableDef → State
after_alter s altered =
    record s { catalog = unwrap_or (option_map (λ table. with_altered table s.catalog) altered) s.catalog }
