-- Believed: what an UPDATE asks of a row, or why it can't be planned.
use Rattle.std.specs.Prelude.{ℕ, ℤ, Bool, true, false, ◌&&◌, not, if◌then◌else◌, Option, Some, None, option_map, option_and_then, unwrap_or, Result, Ok, Err, List, [], ◌∷◌, length, map, find, nat_le, bytes_eq}
use Rattle.std.specs.Option.{ok_or}
use Rattle.std.specs.List.{list_any, list_all}
use Rattle.escrow_num.specs.Decimal.{units_at}
use Rattle.escrow_num.specs.declared.changes.TheConstants.Changes.{IN_PLACE}
use Rattle.escrow_num.specs.declared.value.Value.{Value}
use Rattle.escrow_num.specs.declared.refusal.Refusal.{Refusal}
use Rattle.escrow_num.specs.declared.refusal.Refusal.TheVariants as refusal
use Rattle.escrow_statement.specs.declared.statement.Assign.{Assign}
use Rattle.escrow_statement.specs.declared.statement.Assigned.{Assigned}
use Rattle.escrow_statement.specs.declared.statement.Assigned.TheVariants as assigned
use Rattle.escrow_statement.specs.declared.statement.Literal.{Literal}
use Rattle.escrow_statement.specs.declared.statement.UpdateText.{UpdateText}
use Rattle.escrow_statement.specs.declared.statement.WhereText.{WhereText}
use Rattle.escrow_schema.specs.declared.column.Column.{Column}
use Rattle.escrow_schema.specs.declared.column.ColumnType.{ColumnType}
use Rattle.escrow_schema.specs.declared.plan.Plan.{Plan}
use Rattle.escrow_schema.specs.declared.plan.Plan.TheVariants.{Reserve, Plain}
use Rattle.escrow_schema.specs.declared.table.TableDef.{TableDef}
use Rattle.escrow_schema.specs.Column.{is_number, value_in, scale_of, reservables}
use Rattle.escrow_schema.specs.Definition.{are_distinct, key_column}
use Rattle.escrow_schema.specs.Fit.{plains}

-- whether a name is the key column's
abbrev pub is_key : TableDef → List ℕ → Bool
is_key table name = unwrap_or (option_map (λ column. bytes_eq column.name name) (key_column table)) false

-- the key of a literal, if it fits the key column's type
abbrev pub key_in : TableDef → Literal → Option Value
key_in table literal = option_and_then (λ column. value_in column.kind literal) (key_column table)

-- the key that a WHERE names, or why it names none: WHERE names another column than the key (25), or the key's type
-- doesn't hold the literal (23)
abbrev pub key_named : TableDef → WhereText → Result Value Refusal
key_named table row =
    if not (is_key table row.column) then Err refusal.NotTheKey else ok_or (key_in table row.literal) refusal.BadValue

-- whether the value assigned to a column is the column itself plus or minus a number
abbrev pub is_itself : List ℕ → Assigned → Bool
is_itself column (assigned.Literal literal) = false
is_itself column (assigned.Change source change) = bytes_eq column source

-- whether an assignment sets a RESERVABLE column to itself plus or minus a number
abbrev pub is_change : List Column → Assign → Bool
is_change columns assign =
    list_any (λ column. column.reservable && bytes_eq column.name assign.column) columns && is_itself assign.column
    assign.value

-- whether one of the columns has a name
abbrev pub has_column : List Column → List ℕ → Bool
has_column columns name = list_any (λ column. bytes_eq column.name name) columns

-- whether the assigned value is a literal
abbrev pub is_literal : Assigned → Bool
is_literal (assigned.Literal literal) = true
is_literal (assigned.Change source change) = false

-- whether an assignment sets a column that is neither RESERVABLE nor the key to a literal
abbrev pub is_replacement : TableDef → Assign → Bool
is_replacement table assign = has_column (plains table.columns 0 table.key) assign.column && is_literal assign.value

-- whether each assignment changes a RESERVABLE column, and no two the same one
abbrev pub are_changes : List Column → List Assign → Bool
are_changes columns assigns =
    are_distinct (map (λ assign. assign.column) assigns) && list_all (is_change columns) assigns

-- whether each assignment replaces a plain value, and no two the same one
abbrev pub are_replacements : TableDef → List Assign → Bool
are_replacements table assigns =
    are_distinct (map (λ assign. assign.column) assigns) && list_all (is_replacement table) assigns

-- what is assigned to a column, if anything is
abbrev pub assigned_to : List Assign → List ℕ → Option Assigned
assigned_to assigns column =
    option_map (λ assign. assign.value) (find (λ assign. bytes_eq assign.column column) assigns)

-- the change that is assigned, if one is
abbrev pub change_in : Assigned → Option ℤ
change_in (assigned.Literal literal) = None
change_in (assigned.Change source change) = Some change

-- the literal that is assigned, if one is
abbrev pub literal_in : Assigned → Option Literal
literal_in (assigned.Literal literal) = Some literal
literal_in (assigned.Change source change) = None

-- the change of a column, in units of its scale: an inner none if no change is assigned; none at all if it isn't a
-- whole number of units, or these are no amount
abbrev pub change_at : ℕ → Option ℤ → Option (Option ℤ)
change_at scale None = Some None
change_at scale (Some z) = option_map (λ units. Some units) (units_at scale z)

-- the change, or none, of each of some columns, if all are good
abbrev pub changes_for : List Column → List Assign → Option (List (Option ℤ))
changes_for [] assigns = Some []
changes_for (column ∷ columns) assigns =
    option_and_then (λ change. option_map (λ changes. change ∷ changes) (changes_for columns assigns))
    (change_at (scale_of column.kind) (option_and_then change_in (assigned_to assigns column.name)))

-- the change, or none, of each RESERVABLE column, in column order
abbrev pub changes_of : List Column → List Assign → Option (List (Option ℤ))
changes_of columns assigns = changes_for (reservables columns) assigns

-- the new value of a column of a type: an inner none if no literal is assigned; none at all if the literal doesn't fit
abbrev pub new_value : ColumnType → Option Literal → Option (Option Value)
new_value kind None = Some None
new_value kind (Some literal) = option_map (λ v. Some v) (value_in kind literal)

-- the new value, or none, of each of some columns, if each literal fits
abbrev pub new_values_of : List Column → List Assign → Option (List (Option Value))
new_values_of [] assigns = Some []
new_values_of (column ∷ columns) assigns =
    option_and_then (λ v. option_map (λ values. v ∷ values) (new_values_of columns assigns))
    (new_value column.kind (option_and_then literal_in (assigned_to assigns column.name)))

-- the new value, or none, of each column that is neither RESERVABLE nor the key, in column order
abbrev pub new_values : TableDef → List Assign → Option (List (Option Value))
new_values table assigns = new_values_of (plains table.columns 0 table.key) assigns

-- the key of the row that a plan is for
abbrev pub key_of : Plan → Value
key_of (Reserve key changes) = key
key_of (Plain key values) = key

-- whether a plan takes no memory: it reserves changes of a row whose key is a number, in a table that has at most 4
-- RESERVABLE columns
abbrev pub is_in_place : Plan → Bool
is_in_place (Reserve key changes) = is_number key && nat_le (length changes) IN_PLACE
is_in_place (Plain key values) = false

-- a plan for the key that a WHERE names
abbrev pub for_key : (Value → Result Plan Refusal) → Result Value Refusal → Result Plan Refusal
for_key plan (Ok key) = plan key
for_key plan (Err refusal) = Err refusal

-- what an UPDATE asks, or why it can't be planned: first, bad assignments (24); then, a WHERE of another column than
-- the key (25); then, a bad value (23). A literal, in WHERE or assigned, is bad if its column's type doesn't hold it. A
-- change is bad if it isn't a whole number of its column's units, or if these are no amount
abbrev pub planned : TableDef → UpdateText → Result Plan Refusal
planned table text =
    if are_changes table.columns text.assigns
    then for_key (λ key. ok_or
    (option_map (λ changes. Reserve key changes) (changes_of table.columns text.assigns)) refusal.BadValue)
    (key_named table text.row)
    else (if are_replacements table text.assigns
    then for_key (λ key. ok_or
    (option_map (λ values. Plain key values) (new_values table text.assigns)) refusal.BadValue)
    (key_named table text.row)
    else Err refusal.BadAssignment)
