-- Helps: the rows that values make, for private contracts. No contract of a public call uses it.
use Rattle.std.specs.Prelude.{List}
use Rattle.std.specs.List.{flat_map}
use Rattle.std.specs.Option.{option_to_list}
use Rattle.escrow_num.specs.declared.row.Row.{Row}
use Rattle.escrow_num.specs.declared.value.Value.{Value}
use Rattle.escrow_schema.specs.declared.table.TableDef.{TableDef}
use Rattle.escrow_schema.specs.Fit.{row_with}

-- the rows that values make, if they make any
abbrev pub rows_with : TableDef → List (List Value) → List Row
rows_with table all = flat_map (λ values. option_to_list (row_with table values)) all
