-- What a valid state bounds, and the shapes of its tables, rows and reservations.
use Rattle.std.specs.Prelude.{◌≡◌, ◌<◌, ◌≤◌, ◌*◌, ◌^◌, ℕ, ℤ, List, Some, length, bytes_eq, IsSomeAnd}
use Rattle.std.specs.List.{AllByRecursion}
use Rattle.std.proofs.Common.{subst, arith}
use Rattle.escrow_num.specs.declared.row.Row.{Row}
use Rattle.escrow_num.specs.declared.value.RowName.{RowName}
use Rattle.escrow_num.specs.declared.reservation.Reservation.{Reservation}
use Rattle.escrow_num.specs.Order.{same_row}
use Rattle.escrow_checks.specs.declared.check.Check.{Check}
use Rattle.escrow_checks.specs.Form.{IsCovered}
use Rattle.escrow_schema.specs.declared.table.TableDef.{TableDef}
use Rattle.escrow_schema.specs.Catalog.{table_named}
use Rattle.escrow_schema.specs.Column.{reservables}
use Rattle.escrow_schema.specs.Definition.{IsTable}
use Rattle.escrow_schema.specs.Fit.{IsRowOf}
use Rattle.escrow_schema.proofs.LawLemmas.{checks_of_whole_row}
use Rattle.escrow_num.specs.declared.session.TheConstants.Session.{MAX}
use Rattle.escrow_journal.specs.declared.journal.TheConstants.Journal.{MAX_RESERVATIONS}
use Rattle.escrow_machine.specs.State.{State}
use Rattle.escrow_schema.specs.Rows.{row_named, HasTable}
use Rattle.escrow_machine.specs.Valid.{IsOrderly, IsValid, IsReservationIn}
use Rattle.escrow_num.proofs.Items.{all_has, has_all, find_has}
use Rattle.escrow_machine.proofs.Lengths.{length-by_number}
use Rattle.escrow_num.proofs.Orders.{row_same}
use Rattle.escrow_machine.proofs.Safe.{some_at}

-- what holds for a state whatever its rows are
abbrev pub HasOrder : State → Type 0
HasOrder s = IsOrderly s.catalog s.reservations s.savepoints s.next_id

-- TABLES AND RESERVATIONS

-- a table in the catalog is well formed
pub is_table_found : (s : State) → HasOrder s → (name : List ℕ) (table : TableDef) → table_named s.catalog name ≡ Some table → IsTable table
is_table_found s orderly name table found =
    all_has IsTable s.catalog orderly.tables.tables table (find_has (λ (t : TableDef). bytes_eq t.name name) s.catalog table found).0

-- the open reservations of a database can be counted in 32 bits: each session has at most 256
pub few_reservations : (s : State) → HasOrder s → length s.reservations < 2 ^ 32
few_reservations s orderly =
    let most : length s.reservations ≤ MAX_RESERVATIONS * MAX =
    length-by_number (λ (r : Reservation). r.session) MAX_RESERVATIONS MAX s.reservations
    (λ r h. (all_has (IsReservationIn s.catalog s.next_id) s.reservations orderly.reservations_in r h).session) orderly.few_reservations in
    omega (arith, most)

-- ROWS

-- a row whose table is in the catalog has the shape of that table
pub row_of_table : (catalog : List TableDef) (name : RowName) (table : TableDef) (row : Row) → table_named catalog name.table ≡ Some table
    → HasTable catalog row → row.name ≡ name → IsRowOf table row
row_of_table catalog name table row named has same =
    let at_name = subst (λ (n : RowName). IsSomeAnd (table_named catalog n.table) (λ t. IsRowOf t row)) same has in
    some_at (λ t. IsRowOf t row) (table_named catalog name.table) table named at_name

-- a row of a valid state has the shape of its table
pub row_found : (s : State) → IsValid s → (name : RowName) (table : TableDef) (row : Row)
    → table_named s.catalog name.table ≡ Some table → row_named s.rows name ≡ Some row → IsRowOf table row
row_found s valid name table row named found =
    let of_row = find_has (λ (r : Row). same_row r.name name) s.rows row found in
    row_of_table s.catalog name table row named (all_has (HasTable s.catalog) s.rows valid.safe_rows.tables row of_row.0) (row_same row.name name of_row.1)

-- COVERED CHECKS

-- a row has an amount for each coefficient of each check
pub covered : (table : TableDef) (amounts : List ℤ) → IsTable table → length amounts ≡ length (reservables table.columns)
    → AllByRecursion (λ check. IsCovered check.coeffs amounts) table.checks
covered table amounts is_table long =
    has_all (λ (check : Check). IsCovered check.coeffs amounts) table.checks (λ check h.
    let whole = all_has (λ (c : Check). length c.coeffs ≡ length (reservables table.columns)) table.checks (checks_of_whole_row table is_table) check h in
    omega arith)

-- so has a row that a name finds in a valid state
pub covered_found : (s : State) → IsValid s → (name : RowName) (table : TableDef) (row : Row)
    → table_named s.catalog name.table ≡ Some table → row_named s.rows name ≡ Some row → AllByRecursion (λ check. IsCovered check.coeffs row.amounts) table.checks
covered_found s valid name table row named found =
    covered table row.amounts (is_table_found s valid.orderly name.table table named) (row_found s valid name table row named found).amounts
