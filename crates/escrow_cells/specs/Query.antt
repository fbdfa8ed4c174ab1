-- Helps: what private contracts say of a query. No contract of a public call uses it.
use Rattle.std.specs.Prelude.{◌≡◌, ℕ, List, [], None, Ok}
use Rattle.sqlite_sql.specs.Query.{Query}
use Rattle.sqlite_schema.specs.declared.command.Command.TheVariants.{Select}
use Rattle.sqlite_schema.specs.declared.schema.Schema.{Schema}
use Rattle.sqlite_schema.specs.declared.schema.Table.{Table}
use Rattle.sqlite_schema.specs.declared.schema.Index.{Index}
use Rattle.sqlite_schema.specs.declared.schema.View.{View}
use Rattle.sqlite_resolve.specs.declared.compiled.Compiled.{Compiled}
use Rattle.sqlite.specs.Listing.{understood}
use Rattle.escrow_cells.specs.Tables.{beside}

-- a text has no RETURNING, whatever the schema is, so a query of it writes nothing
abbrev pub IsReading : List ℕ → Type 0
IsReading sql = (schema : Schema) (c : Compiled) → understood schema sql ≡ Ok c → c.returning ≡ None

-- a text has no RETURNING, and is a SELECT without a WITH, whatever objects come after the three tables. Rows that
-- begin an answer to it are therefore the first rows of a whole answer
pub record IsSelecting (sql : List ℕ) : Type 0 where
  pub reads : IsReading sql
  pub selects : (more : List Table) (indexes : List Index) (views : List View) (c : Compiled)
      → understood (beside more indexes views) sql ≡ Ok c
      → (body : Query) × (names : List (List ℕ)) × (c.command ≡ Select (record { lets = []; body = body }) names)
