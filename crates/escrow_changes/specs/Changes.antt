-- Believed: what a statement that isn't refused changes, and that nothing else changes.
use Rattle.std.specs.Prelude.{◌≡◌, ◌⊎◌, ◌+◌, ℕ, Bool, false, IsTrue, Option, Some, None, option_and_then, unwrap_or, Ok, IsSome, List, [], ◌∷◌, length, map, slice_get}
use Rattle.std.specs.List.{AllByRecursion}
use Rattle.escrow_num.specs.declared.row.Row.{Row}
use Rattle.escrow_num.specs.declared.value.RowName.{RowName}
use Rattle.escrow_num.specs.declared.value.Value.{Value}
use Rattle.escrow_statement.specs.declared.statement.AlterText.{AlterText}
use Rattle.escrow_statement.specs.declared.statement.RowText.{RowText}
use Rattle.escrow_statement.specs.declared.statement.SelectText.{SelectText}
use Rattle.escrow_statement.specs.declared.statement.TableChange.{TableChange}
use Rattle.escrow_statement.specs.declared.statement.TableChange.TheVariants as change
use Rattle.escrow_statement.specs.declared.statement.UpdateText.{UpdateText}
use Rattle.escrow_statement.specs.declared.statement.WhereText.{WhereText}
use Rattle.escrow_checks.specs.declared.check.Check.{Check}
use Rattle.escrow_schema.specs.declared.table.TableDef.{TableDef}
use Rattle.escrow_schema.specs.Catalog.{table_named}
use Rattle.escrow_schema.specs.Fit.{values_of}
use Rattle.escrow_schema.specs.Plan.{key_named}
use Rattle.escrow_schema.specs.Rows.{row_named, rows_of}
use Rattle.escrow_machine.specs.declared.reply.Reply.{Reply}
use Rattle.escrow_machine.specs.declared.reply.Reply.TheVariants as reply
use Rattle.escrow_machine.specs.Altered.{new_checks}
use Rattle.escrow_machine.specs.Asked.{heading_of, row_name}
use Rattle.escrow_machine.specs.State.{State, is_open}

-- the rows of other names are as they were, and the tables of other names
abbrev pub OtherRowsStay : RowName → State → State → Type 0
OtherRowsStay name s new = (other : RowName) → ¬ (other ≡ name) → row_named new.rows other ≡ row_named s.rows other

abbrev pub OtherTablesStay : List ℕ → State → State → Type 0
OtherTablesStay name s new =
    (other : List ℕ) → ¬ (other ≡ name) → table_named new.catalog other ≡ table_named s.catalog other

-- SELECT

-- which rows are shown: without a WHERE those of the table; with one the row of its key, if there is one
abbrev pub AreAsked : State → TableDef → List ℕ → Option WhereText → List Row → Type 0
AreAsked s table name None shown = shown ≡ rows_of s.rows name
AreAsked s table name (Some text) shown =
    (key : Value) × (key_named table text ≡ Ok key)
    × (((shown ≡ []) × (row_named s.rows (row_name name key) ≡ None))
    ⊎ ((row : Row) × (shown ≡ row ∷ []) × (row_named s.rows (row_name name key) ≡ Some row)))

-- the reply has these rows, each with its values in the order of the columns, and nothing changes
pub record Selects (s : State) (text : SelectText) (answer : Reply) (new : State) : Type 0 where
  pub stays : new ≡ s
  pub table : TableDef
  pub named : table_named s.catalog text.table ≡ Some table
  pub shown : List Row
  pub asked : AreAsked s table text.table text.row shown
  pub replies : answer ≡ reply.Rows (map heading_of table.columns) (map (values_of table) shown)

-- DELETE: the row of the key goes. It was there, and nobody had reserved it
pub record Deletes (s : State) (session : ℕ) (text : RowText) (answer : Reply) (new : State) : Type 0 where
  pub replies : answer ≡ reply.Deleted
  pub closed : is_open session s ≡ false
  pub table : TableDef
  pub named : table_named s.catalog text.table ≡ Some table
  pub key : Value
  pub is_key : key_named table text.row ≡ Ok key
  pub stood : IsSome (row_named s.rows (row_name text.table key))
  pub free : AllByRecursion (λ r. ¬ (r.row ≡ row_name text.table key)) s.reservations
  pub gone : row_named new.rows (row_name text.table key) ≡ None
  pub others : OtherRowsStay (row_name text.table key) s new
  pub rest : new ≡ record s { rows = new.rows }

-- DROP TABLE: the table of the name goes, and its rows, none of which anybody had reserved
pub record Drops (s : State) (session : ℕ) (name : List ℕ) (answer : Reply) (new : State) : Type 0 where
  pub replies : answer ≡ reply.Dropped name
  pub closed : is_open session s ≡ false
  pub stood : IsSome (table_named s.catalog name)
  pub free : AllByRecursion (λ r. ¬ (r.row.table ≡ name)) s.reservations
  pub gone : table_named new.catalog name ≡ None
  pub others : OtherTablesStay name s new
  pub rows_gone : (row : RowName) → row.table ≡ name → row_named new.rows row ≡ None
  pub other_rows : (row : RowName) → ¬ (row.table ≡ name) → row_named new.rows row ≡ row_named s.rows row
  pub rest : new ≡ record s { catalog = new.catalog; rows = new.rows }

-- ALTER TABLE

-- ADD keeps each check, and adds those of its CHECK: a test that all checks pass is one that the old and the added ones
-- pass. DROP CONSTRAINT takes one check, and keeps each of another name
abbrev pub ChangesChecks : TableDef → TableChange → List Check → Type 0
ChangesChecks old (change.Add text) checks =
    (more : List Check) × (new_checks old text ≡ Some more) × (length checks ≡ length old.checks + length more)
    × ((test : Check → Bool) → AllByRecursion (λ check. IsTrue (test check)) checks
    → AllByRecursion (λ check. IsTrue (test check)) old.checks × AllByRecursion (λ check. IsTrue (test check)) more)
ChangesChecks old (change.Drop name) checks =
    (length old.checks ≡ length checks + 1)
    × ((test : Check → Bool) → AllByRecursion (λ check. IsTrue (test check)) checks
    → AllByRecursion (λ check. ¬ (check.name ≡ name) → IsTrue (test check)) old.checks)

-- the table of the name has other checks, and nothing else changes
pub record Alters (s : State) (session : ℕ) (text : AlterText) (answer : Reply) (new : State) : Type 0 where
  pub replies : answer ≡ reply.Altered text.table
  pub closed : is_open session s ≡ false
  pub old : TableDef
  pub named : table_named s.catalog text.table ≡ Some old
  pub table : TableDef
  pub now : table_named new.catalog text.table ≡ Some table
  pub alike : table ≡ record old { checks = table.checks }
  pub checks : ChangesChecks old text.change table.checks
  pub others : OtherTablesStay text.table s new
  pub rest : new ≡ record s { catalog = new.catalog }

-- UPDATE OF PLAIN COLUMNS

-- the value at a place, or the old one if there is no new one
abbrev pub value_or : List (Option Value) → ℕ → Value → Value
value_or values place old = unwrap_or (option_and_then (λ new. new) (slice_get values place)) old

-- the row of the key has new values at the places that are assigned. Its amounts stay, and all other values
pub record Replaces (s : State) (session : ℕ) (text : UpdateText) (key : Value) (values : List (Option Value))
    (answer : Reply) (new : State) : Type 0 where
  pub replies : answer ≡ reply.Updated
  pub closed : is_open session s ≡ false
  pub row : Row
  pub stood : row_named s.rows (row_name text.table key) ≡ Some row
  pub now : Row
  pub stands : row_named new.rows (row_name text.table key) ≡ Some now
  pub alike : now ≡ record row { plain = now.plain }
  pub many : length now.plain ≡ length row.plain
  pub each : (place : ℕ) (old : Value) → slice_get row.plain place ≡ Some old
      → slice_get now.plain place ≡ Some (value_or values place old)
  pub others : OtherRowsStay (row_name text.table key) s new
  pub rest : new ≡ record s { rows = new.rows }
