-- Helps: the rows of several tables, one table after another.
use Rattle.std.specs.Prelude.{List}
use Rattle.std.specs.List.{flat_map}
use Rattle.escrow_num.specs.declared.row.Row.{Row}
use Rattle.escrow_schema.specs.declared.table.TableDef.{TableDef}
use Rattle.escrow_schema.specs.Rows.{rows_of}

-- the rows of some tables, one table after another
abbrev pub rows_by_table : List Row → List TableDef → List Row
rows_by_table rows tables = flat_map (λ table. rows_of rows table.name) tables
