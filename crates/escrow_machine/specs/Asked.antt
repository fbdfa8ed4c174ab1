-- Believed: what statements need of a state.
use Rattle.std.specs.Prelude.{ℕ, ℤ, Option, Some, None, option_map, option_and_then, unwrap_or, Bool, false, List, [], map, filter, bytes_eq}
use Rattle.std.specs.Result.{result_ok, result_err}
use Rattle.escrow_num.specs.declared.refusal.Refusal.{Refusal}
use Rattle.escrow_num.specs.declared.refusal.Violation.{Violation}
use Rattle.escrow_num.specs.declared.row.Row.{Row}
use Rattle.escrow_num.specs.declared.reservation.Reservation.{Reservation}
use Rattle.escrow_num.specs.declared.value.RowName.{RowName}
use Rattle.escrow_num.specs.declared.value.Value.{Value}
use Rattle.escrow_num.specs.Order.{same_row}
use Rattle.escrow_num.specs.Reservation.{deltas}
use Rattle.escrow_statement.specs.declared.statement.InsertText.{InsertText}
use Rattle.escrow_statement.specs.declared.statement.UpdateText.{UpdateText}
use Rattle.escrow_statement.specs.declared.statement.SelectText.{SelectText}
use Rattle.escrow_statement.specs.declared.statement.WhereText.{WhereText}
use Rattle.escrow_checks.specs.Grant.{broken}
use Rattle.escrow_schema.specs.declared.plan.Plan.{Plan}
use Rattle.escrow_schema.specs.declared.plan.Plan.TheVariants as plan
use Rattle.escrow_schema.specs.declared.column.Column.{Column}
use Rattle.escrow_schema.specs.declared.table.TableDef.{TableDef}
use Rattle.escrow_schema.specs.Catalog.{table_named}
use Rattle.escrow_schema.specs.Column.{scale_of, truncated_value}
use Rattle.escrow_schema.specs.Definition.{key_scale}
use Rattle.escrow_schema.specs.Fit.{inserted_row, values_of}
use Rattle.escrow_schema.specs.Plan.{key_named, planned}
use Rattle.escrow_schema.specs.Print.{canonical}
use Rattle.escrow_machine.specs.declared.reply.Heading.{Heading}
use Rattle.escrow_machine.specs.declared.reply.Reply.{Reply}
use Rattle.escrow_machine.specs.declared.reply.Reply.TheVariants as reply
use Rattle.escrow_machine.specs.State.{State, is_reserved}
use Rattle.escrow_schema.specs.Rows.{row_named, changes_to}

-- INSERT

-- the row that an INSERT makes in the table of its name, if its literals fit
abbrev pub new_row : State → InsertText → Option Row
new_row s text = option_and_then (λ table. inserted_row table text) (table_named s.catalog text.table)

-- what a new row breaks of its table's checks, judged with no open reservation and no change
abbrev pub insert_violation : State → InsertText → Option Violation
insert_violation s text =
    option_and_then (λ table. option_and_then (λ row. broken table.checks row.amounts [] []) (new_row s text))
    (table_named s.catalog text.table)

-- UPDATE

-- the plan of an UPDATE, if it has one
abbrev pub plan_of : State → UpdateText → Option Plan
plan_of s text = option_and_then (λ table. result_ok (planned table text)) (table_named s.catalog text.table)

-- why an UPDATE has no plan
abbrev pub plan_refusal_of : State → UpdateText → Option Refusal
plan_refusal_of s text = option_and_then (λ table. result_err (planned table text)) (table_named s.catalog text.table)

-- the reservation of these changes of a row, with the next id
abbrev pub reservation_from : State → ℕ → RowName → List (Option ℤ) → Reservation
reservation_from s session row changes = record { id = s.next_id; session = session; row = row; changes = changes }

-- the name of the row of a key, in a table
abbrev pub row_name : List ℕ → Value → RowName
row_name table key = record { table = table; key = key }

-- the reservation that a plan makes of a row of a table; a plan of plain values makes none
abbrev pub reserved_by : State → ℕ → List ℕ → Plan → Option Reservation
reserved_by s session table (plan.Reserve key changes) = Some (reservation_from s session (row_name table key) changes)
reserved_by s session table (plan.Plain key values) = None

-- the reservation that an UPDATE asks for, if it asks for one
abbrev pub reservation_of : State → ℕ → UpdateText → Option Reservation
reservation_of s session text = option_and_then (reserved_by s session text.table) (plan_of s text)

-- whether a plan reserves changes of a row that has an open reservation, of any session
abbrev pub is_beside : State → List ℕ → Plan → Bool
is_beside s table (plan.Reserve key changes) = is_reserved s (row_name table key)
is_beside s table (plan.Plain key values) = false

-- whether an UPDATE has a plan that reserves changes of a row that has an open reservation, of any session
abbrev pub reserves_beside : State → UpdateText → Bool
reserves_beside s text = unwrap_or (option_map (is_beside s text.table) (plan_of s text)) false

-- what a reservation breaks of its table's checks, over every choice of the open ones that contains it
abbrev pub violation_of : State → Reservation → Option Violation
violation_of s r =
    option_and_then (λ table.
    option_and_then (λ row. broken table.checks row.amounts (deltas r.changes)
    (map (changes_to row) s.reservations))
    (row_named s.rows r.row)) (table_named s.catalog r.row.table)

-- WHERE

-- the digits after the point of the keys of the table of a name, if they are numbers
abbrev pub key_scale_of : List TableDef → List ℕ → ℕ
key_scale_of catalog table = unwrap_or (option_map key_scale (table_named catalog table)) 0

-- the name of the row that a WHERE names in a table. Its key is the literal; a number is in units of the table's keys.
-- A literal that isn't a whole number of units, or doesn't fit the key's type, is refused earlier (key_refusal_of)
abbrev pub named_by : List TableDef → List ℕ → WhereText → RowName
named_by catalog table row = row_name table (truncated_value (key_scale_of catalog table) row.literal)

-- why a WHERE names no row: it names another column than the key, or the key's type doesn't hold its literal
abbrev pub key_refusal_of : State → List ℕ → WhereText → Option Refusal
key_refusal_of s name row = option_and_then (λ table. result_err (key_named table row)) (table_named s.catalog name)

-- SELECT AND SHOW TABLE

-- why a SELECT's WHERE, if it has one, names no row
abbrev pub select_refusal_of : State → SelectText → Option Refusal
select_refusal_of s text = option_and_then (key_refusal_of s text.table) text.row

-- whether a SELECT of a table shows a row: one of the table, and with a WHERE only the one of its key
abbrev pub is_shown : List TableDef → List ℕ → Option WhereText → Row → Bool
is_shown catalog table None row = bytes_eq row.name.table table
is_shown catalog table (Some where_text) row = same_row row.name (named_by catalog table where_text)

-- the heading over the values of a column: its name, and the digits after the point of its numbers
abbrev pub heading_of : Column → Heading
heading_of column = record { name = column.name; scale = scale_of column.kind }

-- what a SELECT shows: the columns' headings, and the values of each committed row that it selects, in column order;
-- the rows are in order of key
abbrev pub select_reply : State → SelectText → Reply
select_reply s text =
    unwrap_or (option_map (λ table.
    reply.Rows (map heading_of table.columns)
    (map (values_of table) (filter (is_shown s.catalog text.table text.row) s.rows)))
    (table_named s.catalog text.table))
    (reply.Rows [] [])

-- what a SHOW TABLE shows: the text that defines the table
abbrev pub show_reply : State → List ℕ → Reply
show_reply s name =
    unwrap_or (option_map (λ table. reply.Table (canonical table)) (table_named s.catalog name)) (reply.Table [])
