-- Believed: the statements of the laws in src/laws.rt.
use Rattle.std.specs.Prelude.{◌≡◌, ◌⊎◌, ◌↔◌, ℕ, ℤ, ◌+◌, ◌≤◌, false, Option, Some, None, Ok, Err, IfSome, IsTrue, List, ◌++◌, bytes_eq, codes, length, map, slice_get}
use Rattle.std.specs.List.{AllByRecursion, AllZip, list_any}
use Rattle.escrow_num.specs.Amount.{IsAmount}
use Rattle.escrow_num.specs.Decimal.{units_at}
use Rattle.escrow_num.specs.declared.refusal.Refusal.{Refusal}
use Rattle.escrow_num.specs.declared.refusal.Refusal.TheVariants as refusal
use Rattle.escrow_num.specs.declared.row.Row.{Row}
use Rattle.escrow_num.specs.declared.value.Value.{Value}
use Rattle.escrow_num.specs.declared.value.Value.TheVariants as value
use Rattle.escrow_statement.specs.declared.statement.Assign.{Assign}
use Rattle.escrow_statement.specs.declared.statement.Assigned.TheVariants as assigned
use Rattle.escrow_statement.specs.declared.statement.CreateText.{CreateText}
use Rattle.escrow_statement.specs.declared.statement.InsertText.{InsertText}
use Rattle.escrow_statement.specs.declared.statement.Literal.{Literal}
use Rattle.escrow_statement.specs.declared.statement.UpdateText.{UpdateText}
use Rattle.escrow_statement.specs.declared.statement.WhereText.{WhereText}
use Rattle.escrow_checks.specs.declared.coefficients.TheConstants.Coefficients.{MAX_LEN}
use Rattle.escrow_checks.specs.declared.condition.TheConstants.{MAX_CHECKS}
use Rattle.escrow_checks.specs.Condition.{MeetsText}
use Rattle.escrow_checks.specs.Grant.{Meets}
use Rattle.escrow_checks.specs.Laws.{AreNamed}
use Rattle.escrow_checks.specs.Scales.{in_millionths}
use Rattle.escrow_schema.specs.declared.catalog.TheConstants.Catalog.{MAX_TABLES}
use Rattle.escrow_schema.specs.declared.column.TheConstants.ColumnType.{MAX_DIGITS, MAX_BYTES}
use Rattle.escrow_schema.specs.declared.table.TheConstants.TableDef.{MIN_COLUMNS, MAX_COLUMNS, MAX_ROWS}
use Rattle.escrow_schema.specs.declared.column.Column.{Column}
use Rattle.escrow_schema.specs.declared.plan.Plan.{Plan}
use Rattle.escrow_schema.specs.declared.plan.Plan.TheVariants.{Reserve, Plain}
use Rattle.escrow_schema.specs.declared.table.TableDef.{TableDef}
use Rattle.escrow_schema.specs.BadAssignment.{IsBadlyAssigned}
use Rattle.escrow_schema.specs.Column.{fits, scale_of, reservables, names_of, scales_of, value_at, value_in, truncated_value}
use Rattle.escrow_schema.specs.Definition.{IsTable, check_names, checks_in, definition_of, key_scale}
use Rattle.escrow_schema.specs.Fit.{FitColumns, IsRowOf, fitted, inserted_row, plains, values_in, values_of}
use Rattle.escrow_schema.specs.Plan.{key_named, key_of, planned}
use Rattle.escrow_schema.specs.Rules.{FollowsRules}

-- a table has the name that its text writes
abbrev pub NameOfTable : Type 0
NameOfTable = (text : CreateText) (table : TableDef) → definition_of text ≡ Some table → table.name ≡ text.table

-- a table has 1 to 10 RESERVABLE columns
abbrev pub FewReservable : Type 0
FewReservable =
    (table : TableDef) → IsTable table → (1 ≤ length (reservables table.columns))
    × (length (reservables table.columns) ≤ MAX_LEN)

-- each check of a table has a coefficient for each of its RESERVABLE columns
abbrev pub ChecksOfWholeRow : Type 0
ChecksOfWholeRow =
    (table : TableDef) → IsTable table
    → AllByRecursion (λ check. length check.coeffs ≡ length (reservables table.columns)) table.checks

-- numbers that meet every check of a table, one for each RESERVABLE column, are amounts
abbrev pub ChecksKeepAmounts : Type 0
ChecksKeepAmounts =
    (table : TableDef) (numbers : List ℤ) → IsTable table → length numbers ≡ length (reservables table.columns)
    → AllByRecursion (λ check. Meets check numbers) table.checks → AllByRecursion IsAmount numbers

-- a table has at most 42 checks: 32 declared ones, and 10 ranges
abbrev pub FewChecks : Type 0
FewChecks = (table : TableDef) → IsTable table → length table.checks ≤ MAX_CHECKS + MAX_LEN

-- the row that an INSERT makes is one of its table
abbrev pub RowsOfTable : Type 0
RowsOfTable =
    (table : TableDef) (text : InsertText) (row : Row) → inserted_row table text ≡ Some row → IsRowOf table row

-- a plan has a change, or none, for each RESERVABLE column
abbrev pub PlansOfWholeRow : Type 0
PlansOfWholeRow =
    (table : TableDef) (text : UpdateText) (key : Value) (changes : List (Option ℤ))
    → planned table text ≡ Ok (Reserve key changes)
    → length changes ≡ length (reservables table.columns)

-- a plan of new values has a value that fits, or none, for each column that is neither RESERVABLE nor
-- the key
abbrev pub PlainPlansFit : Type 0
PlainPlansFit =
    (table : TableDef) (text : UpdateText) (key : Value) (values : List (Option Value))
    → planned table text ≡ Ok (Plain key values)
    → AllZip (λ column new. IfSome new (λ v. IsTrue (fits column.kind v))) (plains table.columns 0 table.key) values

-- a plan of changes has for each RESERVABLE column the change that is assigned to it, wherever in the UPDATE, or none.
-- The change is a whole number of units of the column's scale
abbrev pub ChangesAsAssigned : Type 0
ChangesAsAssigned =
    (table : TableDef) (text : UpdateText) (key : Value) (changes : List (Option ℤ))
    → planned table text ≡ Ok (Reserve key changes)
    → (i : ℕ) (column : Column) → slice_get (reservables table.columns) i ≡ Some column
    → ((k : ℕ) (assign : Assign) (source : List ℕ) (change : ℤ) → slice_get text.assigns k ≡ Some assign
    → assign.column ≡ column.name
    → assign.value ≡ assigned.Change source change → (units : ℤ) × (slice_get changes i ≡ Some (Some units))
    × (units_at (scale_of column.kind) change ≡ Some units))
    × (list_any (λ assign. bytes_eq assign.column column.name) text.assigns ≡ false → slice_get changes i ≡ Some None)

-- a plan of new values has a value, or none, for each column that is neither RESERVABLE nor the key. It is the column's
-- value of the literal that is assigned to it, wherever in the UPDATE
abbrev pub NewValuesAsAssigned : Type 0
NewValuesAsAssigned =
    (table : TableDef) (text : UpdateText) (key : Value) (values : List (Option Value))
    → planned table text ≡ Ok (Plain key values)
    → (i : ℕ) (column : Column) → slice_get (plains table.columns 0 table.key) i ≡ Some column
    → ((k : ℕ) (assign : Assign) (literal : Literal) → slice_get text.assigns k ≡ Some assign
    → assign.column ≡ column.name
    → assign.value ≡ assigned.Literal literal → (v : Value) × (slice_get values i ≡ Some (Some v))
    × (value_in column.kind literal ≡ Some v))
    × (list_any (λ assign. bytes_eq assign.column column.name) text.assigns ≡ false → slice_get values i ≡ Some None)

-- a value is that of a literal at a scale: nothing is rounded
abbrev pub IsValueOf : ℕ → Literal → Value → Type 0
IsValueOf scale literal v = (value_at scale literal ≡ Some v) × (v ≡ truncated_value scale literal)

-- a plan's key is the literal of the UPDATE's WHERE
abbrev pub KeysOfPlans : Type 0
KeysOfPlans =
    (table : TableDef) (text : UpdateText) (plan : Plan) → planned table text ≡ Ok plan
    → IsValueOf (key_scale table) text.row.literal (key_of plan)

-- the key that a WHERE names is its literal
abbrev pub KeysOfWheres : Type 0
KeysOfWheres =
    (table : TableDef) (row : WhereText) (key : Value) → key_named table row ≡ Ok key
    → IsValueOf (key_scale table) row.literal key

-- an UPDATE that can't be planned is refused for its assignments, for its WHERE's column, or for a
-- literal or a change
abbrev pub RefusalsOfPlans : Type 0
RefusalsOfPlans =
    (table : TableDef) (text : UpdateText) (r : Refusal) → planned table text ≡ Err r
    → (r ≡ refusal.BadAssignment) ⊎ ((r ≡ refusal.NotTheKey) ⊎ (r ≡ refusal.BadValue))

-- an UPDATE of a table is refused for its assignments exactly if one of six cases applies
abbrev pub BadAssignmentsAreOfSixKinds : Type 0
BadAssignmentsAreOfSixKinds =
    (table : TableDef) (text : UpdateText) → IsTable table → (planned table text ≡ Err refusal.BadAssignment)
    ↔ IsBadlyAssigned table text

-- a WHERE that names no key is refused for its column or for its literal
abbrev pub RefusalsOfKeys : Type 0
RefusalsOfKeys =
    (table : TableDef) (row : WhereText) (r : Refusal) → key_named table row ≡ Err r → (r ≡ refusal.NotTheKey)
    ⊎ (r ≡ refusal.BadValue)

-- the values of the row that literals make are the values of the literals
abbrev pub ValuesOfRow : Type 0
ValuesOfRow =
    (table : TableDef) (literals : List Literal) (row : Row) → IsTable table → fitted table literals ≡ Some row
    → values_in table.columns literals ≡ Some (values_of table row)

-- in the row of an INSERT with a column list, a column's value is the literal beside its name, wherever in the list the
-- two are
abbrev pub ValuesBesideNames : Type 0
ValuesBesideNames =
    (table : TableDef) (text : InsertText) (names : List (List ℕ)) (row : Row) → IsTable table
    → text.columns ≡ Some names
    → inserted_row table text ≡ Some row
    → (i k : ℕ) (column : Column) (literal : Literal) → slice_get table.columns i ≡ Some column
    → slice_get names k ≡ Some column.name → slice_get text.values k ≡ Some literal
    → slice_get (values_of table row) i ≡ value_in column.kind literal

-- if a row's amounts meet every check of its table, the row's values fit their columns' types
abbrev pub ValuesFit : Type 0
ValuesFit =
    (table : TableDef) (row : Row) → IsTable table → IsRowOf table row
    → AllByRecursion (λ check. Meets check row.amounts) table.checks → FitColumns table.columns (values_of table row)

-- the names of a table's checks: those that its CHECKs give, in order, then RANGE_ and the column's name for each
-- RESERVABLE column, in column order; all differ
pub record HasCheckNames (text : CreateText) (table : TableDef) : Type 0 where
  pub declared : List (List ℕ)
  pub of_text : AreNamed (checks_in text.items) declared
  pub names : check_names table.checks ≡ declared ++ map
      (λ (column : Column). codes "RANGE_" ++ column.name) (reservables table.columns)
  pub apart : (i k : ℕ) (name : List ℕ) → slice_get (check_names table.checks) i ≡ Some name
      → slice_get (check_names table.checks) k ≡ Some name → i ≡ k

-- the checks of the table that a text defines have these names
abbrev pub NamesOfChecks : Type 0
NamesOfChecks = (text : CreateText) (table : TableDef) → definition_of text ≡ Some table → HasCheckNames text table

-- take numbers, one for each RESERVABLE column in units of its scale. They meet every check of a table exactly if, in
-- millionths, they meet every CHECK as written, and each fits its column's type
abbrev pub ChecksMeanConditions : Type 0
ChecksMeanConditions =
    (text : CreateText) (table : TableDef) (numbers : List ℤ) → definition_of text ≡ Some table
    → length numbers ≡ length (reservables table.columns)
    → (AllByRecursion (λ check. Meets check numbers) table.checks
    ↔ (AllByRecursion (MeetsText (names_of (reservables table.columns))
    (in_millionths (scales_of (reservables table.columns)) numbers)) (checks_in text.items)
    × FitColumns (reservables table.columns) (map value.Number numbers)))

-- a text defines a table exactly if the two follow the rules of definitions, one by one
abbrev pub DefinitionsFollowRules : Type 0
DefinitionsFollowRules =
    (text : CreateText) (table : TableDef) → (definition_of text ≡ Some table) ↔ FollowsRules text table

-- the limits of this layer, as numbers
pub record Limits : Type 0 where
  pub tables : MAX_TABLES ≡ 32
  pub rows : MAX_ROWS ≡ 65536
  pub fewest_columns : MIN_COLUMNS ≡ 2
  pub columns : MAX_COLUMNS ≡ 30
  pub digits : MAX_DIGITS ≡ 15
  pub bytes : MAX_BYTES ≡ 255
