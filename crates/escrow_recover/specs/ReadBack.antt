-- Believed: when a text is read back as a table.
use Rattle.std.specs.Prelude.{◌≡◌, ℕ, Some, List}
use Rattle.escrow_sql.specs.Parser.{Asks}
use Rattle.escrow_statement.specs.declared.statement.CreateText.{CreateText}
use Rattle.escrow_statement.specs.declared.statement.Request.TheVariants as requests
use Rattle.escrow_statement.specs.declared.statement.Statement.TheVariants as statements
use Rattle.escrow_schema.specs.declared.table.TableDef.{TableDef}
use Rattle.escrow_schema.specs.Definition.{IsTable, definition_of}
use Rattle.escrow_schema.specs.Print.{canonical}

-- a text asks for a CREATE TABLE that defines the table
abbrev pub ReadsBack : TableDef → List ℕ → Type 0
ReadsBack table written =
    (text : CreateText) × Asks written (requests.Statement (statements.Create text)) × (definition_of text ≡ Some table)

-- the canonical text of each table is read back
abbrev pub TablesAreReadBack : Type 0
TablesAreReadBack = (table : TableDef) → IsTable table → ReadsBack table (canonical table)
