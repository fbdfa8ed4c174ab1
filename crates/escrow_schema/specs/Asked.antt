-- Helps: what private contracts say of an INSERT's literals. No contract of a public call uses it.
use Rattle.std.specs.Prelude.{ℕ, ◌+◌, ◌==◌, Bool, ◌&&◌, Option, Some, None, option_map, option_and_then, List, [], ◌∷◌, length, slice_get}
use Rattle.escrow_num.specs.declared.value.Value.{Value}
use Rattle.escrow_statement.specs.declared.statement.InsertText.{InsertText}
use Rattle.escrow_statement.specs.declared.statement.Literal.{Literal}
use Rattle.escrow_schema.specs.declared.column.Column.{Column}
use Rattle.escrow_schema.specs.Column.{value_in}
use Rattle.escrow_schema.specs.Definition.{are_distinct}
use Rattle.escrow_schema.specs.Fit.{in_column_order, literal_beside, values_in}

-- there are as many literals as columns and, if columns are named, as many distinct names
abbrev pub is_list : List Column → Option (List (List ℕ)) → List Literal → Bool
is_list columns None literals = length columns == length literals
is_list columns (Some names) literals =
    are_distinct names && length names == length columns && length names == length literals

-- the literal of a column: the one beside its name if columns are named, else the one at its place
abbrev pub literal_for : Option (List (List ℕ)) → List Literal → ℕ → List ℕ → Option Literal
literal_for None literals place name = slice_get literals place
literal_for (Some names) literals place name = literal_beside names literals name

-- the value of the column at a place, if it has a literal that fits
abbrev pub asked_value : Option (List (List ℕ)) → List Literal → ℕ → Column → Option Value
asked_value names literals place column =
    option_and_then (value_in column.kind) (literal_for names literals place column.name)

abbrev pub values_at : Option (List (List ℕ)) → List Literal → ℕ → List Column → Option (List Value)
values_at names literals place [] = Some []
values_at names literals place (column ∷ columns) =
    option_and_then (λ v. option_map (λ values. v ∷ values) (values_at names literals (place + 1) columns))
    (asked_value names literals place column)

-- the values of columns, if there are as many literals and each fits
abbrev pub asked_values : List Column → InsertText → Option (List Value)
asked_values columns text = option_and_then (values_in columns) (in_column_order columns text.columns text.values)
