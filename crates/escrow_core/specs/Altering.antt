-- Helps: definitions for ALTER TABLE.
use Rattle.std.specs.Prelude.{◌≡◌, ℕ, ℤ, ◌≤◌, ◌+◌, is_none, Option, Some, option_map, unwrap_or, List, [], ◌∷◌, ◌++◌, length, take, drop}
use Rattle.escrow_num.specs.declared.refusal.Violation.{Violation}
use Rattle.escrow_num.specs.declared.refusal.Refusal.{Refusal}
use Rattle.escrow_num.specs.declared.refusal.Refusal.TheVariants as refusal
use Rattle.escrow_num.specs.declared.reservation.Reservation.{Reservation}
use Rattle.escrow_num.specs.declared.value.RowName.{RowName}
use Rattle.escrow_num.specs.Refusal.{refuse_if, first_refusal}
use Rattle.escrow_statement.specs.declared.statement.CheckText.{CheckText}
use Rattle.escrow_statement.specs.declared.statement.Statement.{Statement}
use Rattle.escrow_statement.specs.declared.statement.Statement.TheVariants as statement
use Rattle.escrow_statement.specs.declared.statement.TableChange.TheVariants as change
use Rattle.escrow_checks.specs.declared.check.Check.{Check}
use Rattle.escrow_checks.specs.Grant.{broken}
use Rattle.escrow_bounds.specs.Altered.{ArePrepared}
use Rattle.escrow_bounds.specs.Held.{of_row}
use Rattle.escrow_bounds.specs.Place.{Place}
use Rattle.escrow_bounds.specs.Bounds.{Bounds, place_at}
use Rattle.escrow_schema.specs.declared.table.TableDef.{TableDef}
use Rattle.escrow_schema.specs.Altered.{with_check}
use Rattle.escrow_schema.specs.Catalog.{table_named}
use Rattle.escrow_schema.specs.Definition.{IsTable}
use Rattle.escrow_schema.specs.Print.{declared_checks}
use Rattle.escrow_machine.specs.State.{State, is_open}
use Rattle.escrow_core.specs.declared.database.added.AddedChecks.{AddedChecks}
use Rattle.escrow_reserved.specs.Reserved.{Reserved, ArePlaced}

-- why a session's ALTER TABLE of the table of a name is refused, whatever it changes
abbrev pub alter_refusal : ℕ → List ℕ → State → Option Refusal
alter_refusal session table s = first_refusal (
    refuse_if (is_open session s) refusal.TransactionOpen
    ∷ refuse_if (is_none (table_named s.catalog table)) refusal.NoSuchTable
    ∷ [])

-- the statement that adds a CHECK to the table of a name
abbrev pub adds : List ℕ → CheckText → Statement
adds table text = statement.Alter (record { table = table; change = change.Add text })

-- the statement that drops the constraint of a name from the table of another
abbrev pub drops : List ℕ → List ℕ → Statement
drops table name = statement.Alter (record { table = table; change = change.Drop name })

-- the added checks
abbrev pub new_ones : AddedChecks → List Check
new_ones added = take added.count (drop added.first added.table.checks)

-- the table without the added checks
abbrev pub table_without : AddedChecks → TableDef
table_without added =
    record added.table {
      checks = take added.first added.table.checks
          ++ drop (added.first + added.count) added.table.checks;
    }

-- a table with the checks that a CHECK adds to an old one, after the declared ones
pub record Adds (old : TableDef) (text : CheckText) (added : AddedChecks) : Type 0 where
  pub made : with_check old text ≡ Some added.table
  pub table : IsTable added.table
  pub first : added.first ≡ length (declared_checks old)
  pub count : length old.checks + added.count ≡ length added.table.checks

-- the added checks, the open reservations, and the places that count them over all checks of the table
pub record AddedJudge : Type 0 where
  pub added : AddedChecks
  pub reservations : List Reservation
  pub addition : Bounds

-- the amounts of the row of a name: those of its place, if it has one, or else those that were read
abbrev pub amounts_by : AddedJudge → RowName → List ℤ → List ℤ
amounts_by judge name amounts =
    unwrap_or (option_map (λ (place : Place). place.amounts) (place_at judge.addition name)) amounts

-- what the open reservations of a row, some of them or none, could break of the added checks
abbrev pub violation_by : AddedJudge → RowName → List ℤ → Option Violation
violation_by judge name amounts =
    broken (new_ones judge.added) (amounts_by judge name amounts) [] (of_row name judge.reservations)

-- the added checks are some of a table's, and an addition was prepared for the reserved rows of the table
pub record CanJudge (added : AddedChecks) (reserved : Reserved) (addition : Bounds) : Type 0 where
  pub table : IsTable added.table
  pub within : added.first + added.count ≤ length added.table.checks
  pub placed : ArePlaced reserved.txns.reservations reserved.places
  pub prepared : ArePrepared added.table.name added.table.checks reserved.txns.reservations reserved.places addition
