-- The row that WHERE names, in a table whose place is known.
use Rattle.std.specs.Prelude.{◌≡◌, ℕ, List, Some, None, IsSome, option_and_then}
use Rattle.std.specs.Result.{result_err}
use Rattle.std.proofs.Common.{sym, ap, ◌∙◌}
use Rattle.escrow_statement.specs.declared.statement.WhereText.{WhereText}
use Rattle.escrow_schema.specs.declared.table.TableDef.{TableDef}
use Rattle.escrow_schema.specs.Catalog.{table_named}
use Rattle.escrow_schema.specs.Column.{value_at, truncated_value}
use Rattle.escrow_schema.specs.Definition.{key_scale}
use Rattle.escrow_schema.specs.Plan.{key_named}
use Rattle.escrow_schema.proofs.KeyValues.{unrefused_there}
use Rattle.escrow_machine.specs.Asked.{key_refusal_of, named_by, row_name}
use Rattle.escrow_machine.specs.State.{State}
use Rattle.escrow_machine.proofs.Keys.{named_in}

-- the literal of a WHERE that is not refused is a value at the scale of the table's keys
pub literal_there : (s : State) (name : List ℕ) (table : TableDef) (row : WhereText) → table_named s.catalog name ≡ Some table → key_refusal_of s name row ≡ None
    → IsSome (value_at (key_scale table) row.literal)
literal_there s name table row named unrefused =
    unrefused_there table row (sym (ap (option_and_then (λ (t : TableDef). result_err (key_named t row))) named) ∙ unrefused)

-- the row with that key is the one that WHERE names
pub row_of_key : (s : State) (name : List ℕ) (table : TableDef) (row : WhereText) → table_named s.catalog name ≡ Some table
    → row_name name (truncated_value (key_scale table) row.literal) ≡ named_by s.catalog name row
row_of_key s name table row named = sym (named_in s.catalog name table row named)
