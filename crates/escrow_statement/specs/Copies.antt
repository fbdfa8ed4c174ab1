-- Believed: which statements hold memory.
use Rattle.std.specs.Prelude.{Bool, true, false, Option, Some, None}
use Rattle.escrow_statement.specs.declared.statement.Literal.{Literal}
use Rattle.escrow_statement.specs.declared.statement.Literal.TheVariants as literal
use Rattle.escrow_statement.specs.declared.statement.Statement.{Statement}
use Rattle.escrow_statement.specs.declared.statement.Statement.TheVariants as statement
use Rattle.escrow_statement.specs.declared.statement.TableChange.{TableChange}
use Rattle.escrow_statement.specs.declared.statement.TableChange.TheVariants as table_change
use Rattle.escrow_statement.specs.declared.statement.WhereText.{WhereText}

-- whether a literal holds memory, which a copy takes too: a text does
abbrev pub literal_holds_memory : Literal → Bool
literal_holds_memory (literal.Number number) = false
literal_holds_memory (literal.Text text) = true

-- whether the condition after WHERE, if there is one, holds memory: its literal may
abbrev pub row_holds_memory : Option WhereText → Bool
row_holds_memory None = false
row_holds_memory (Some row) = literal_holds_memory row.literal

-- whether a change of a table holds memory: a CHECK's list of conditions does
abbrev pub change_holds_memory : TableChange → Bool
change_holds_memory (table_change.Add text) = true
change_holds_memory (table_change.Drop name) = false

-- whether a statement holds memory: a list does, and a literal that is a text
abbrev pub holds_memory : Statement → Bool
holds_memory (statement.Create text) = true
holds_memory (statement.Drop table) = false
holds_memory (statement.Alter text) = change_holds_memory text.change
holds_memory (statement.Insert text) = true
holds_memory (statement.Update text) = true
holds_memory (statement.Delete text) = literal_holds_memory text.row.literal
holds_memory (statement.Select text) = row_holds_memory text.row
holds_memory (statement.ShowTable table) = false
holds_memory (statement.ShowJournal table) = false
holds_memory (statement.ShowBounds text) = literal_holds_memory text.row.literal
holds_memory statement.Commit = false
holds_memory statement.Rollback = false
holds_memory (statement.RollbackTo savepoint) = false
holds_memory (statement.Savepoint savepoint) = false
