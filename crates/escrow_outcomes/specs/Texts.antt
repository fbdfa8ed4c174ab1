-- Believed: texts in UTF-8, in rows and in statements.
use Rattle.std.specs.List.{AllByRecursion}
use Rattle.std.specs.Str.{IsUtf8}
use Rattle.escrow_num.specs.declared.row.Row.{Row}
use Rattle.escrow_num.specs.declared.value.Value.{Value}
use Rattle.escrow_num.specs.declared.value.Value.TheVariants as value
use Rattle.escrow_statement.specs.declared.statement.Assigned.{Assigned}
use Rattle.escrow_statement.specs.declared.statement.Assigned.TheVariants as assigned
use Rattle.escrow_statement.specs.declared.statement.Literal.{Literal}
use Rattle.escrow_statement.specs.declared.statement.Literal.TheVariants as literal
use Rattle.escrow_statement.specs.declared.statement.Statement.{Statement}
use Rattle.escrow_statement.specs.declared.statement.Statement.TheVariants as statement
use Rattle.escrow_machine.specs.declared.event.Event.{Event}
use Rattle.escrow_machine.specs.declared.event.Event.TheVariants as event

-- a value is a number, or a text in UTF-8
abbrev pub IsReadableValue : Value → Type 0
IsReadableValue (value.Number z) = Unit {0}
IsReadableValue (value.Text t) = IsUtf8 t

-- so are the key and each plain value of a row
abbrev pub HasReadableTexts : Row → Type 0
HasReadableTexts row = IsReadableValue row.name.key × AllByRecursion IsReadableValue row.plain

-- a literal is a number, or a text in UTF-8
abbrev pub IsReadableLiteral : Literal → Type 0
IsReadableLiteral (literal.Number z) = Unit {0}
IsReadableLiteral (literal.Text t) = IsUtf8 t

-- what is assigned is a change, or such a literal
abbrev pub IsReadableAssigned : Assigned → Type 0
IsReadableAssigned (assigned.Literal l) = IsReadableLiteral l
IsReadableAssigned (assigned.Change source change) = Unit {0}

-- each text that a statement may put into a row is in UTF-8. A text of the program is: its type, `Text`, has no other
abbrev pub PutsReadable : Statement → Type 0
PutsReadable (statement.Insert text) = AllByRecursion IsReadableLiteral text.values
PutsReadable (statement.Update text) = AllByRecursion (λ assign. IsReadableAssigned assign.value) text.assigns
PutsReadable asked = Unit {0}

abbrev pub IsReadableEvent : Event → Type 0
IsReadableEvent (event.Statement session asked) = PutsReadable asked
IsReadableEvent event.Restart = Unit {0}
