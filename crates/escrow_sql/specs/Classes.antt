-- Helps: a number for each class of tokens.
use Rattle.std.specs.Prelude.{ℕ, ◌+◌}
use Rattle.escrow_sql.specs.declared.token.Symbol.{Symbol}
use Rattle.escrow_sql.specs.declared.token.Symbol.TheVariants as symbol
use Rattle.escrow_sql.specs.declared.token.Kind.{Kind}
use Rattle.escrow_sql.specs.declared.token.Kind.TheVariants as kind
use Rattle.escrow_statement.specs.WordNumber.{number_of}

-- a number for each symbol
abbrev pub symbol_number : Symbol → ℕ
symbol_number symbol.Open = 0
symbol_number symbol.Close = 1
symbol_number symbol.Comma = 2
symbol_number symbol.Semicolon = 3
symbol_number symbol.Star = 4
symbol_number symbol.Plus = 5
symbol_number symbol.Minus = 6
symbol_number symbol.Equal = 7
symbol_number symbol.Below = 8
symbol_number symbol.AtMost = 9
symbol_number symbol.Above = 10
symbol_number symbol.AtLeast = 11

-- the number of a token's class
abbrev pub class_number : Kind → ℕ
class_number (kind.Name name) = 0
class_number (kind.Number n) = 1
class_number (kind.Decimal d) = 2
class_number (kind.Text text) = 3
class_number (kind.Symbol s) = 4 + symbol_number s
class_number (kind.Word w) = 16 + number_of w
