-- The keys that WHERE names.
use Rattle.std.specs.Prelude.{◌≡◌, ℕ, option_map, unwrap_or, Option, Some, List}
use Rattle.std.proofs.Common.{ap}
use Rattle.escrow_statement.specs.declared.statement.WhereText.{WhereText}
use Rattle.escrow_schema.specs.declared.table.TableDef.{TableDef}
use Rattle.escrow_schema.specs.Catalog.{table_named}
use Rattle.escrow_schema.specs.Column.{truncated_value}
use Rattle.escrow_schema.specs.Definition.{key_scale}
use Rattle.escrow_machine.specs.Asked.{key_scale_of, named_by, row_name}

-- the scale of the keys in the table of this name
pub key_scale_at : (catalog : List TableDef) (name : List ℕ) (table : TableDef) → table_named catalog name ≡ Some table → key_scale_of catalog name ≡ key_scale table
key_scale_at catalog name table named = ap (λ (o : Option TableDef). unwrap_or (option_map key_scale o) 0) named

-- the row that WHERE names in that table
pub named_in : (catalog : List TableDef) (name : List ℕ) (table : TableDef) (row : WhereText) → table_named catalog name ≡ Some table
    → named_by catalog name row ≡ row_name name (truncated_value (key_scale table) row.literal)
named_in catalog name table row named = ap (λ (scale : ℕ). row_name name (truncated_value scale row.literal)) (key_scale_at catalog name table named)
