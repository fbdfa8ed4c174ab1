-- Believed: what a text asks, and which column its fault has.
use Rattle.std.specs.Prelude.{◌≡◌, ℕ, ◌⊎◌, Ok, Err, List, length, drop}
use Rattle.escrow_sql.specs.declared.fault.ParseFault.{ParseFault}
use Rattle.escrow_sql.specs.declared.fault.ParseFault.TheVariants as fault
use Rattle.escrow_statement.specs.declared.statement.Request.{Request}
use Rattle.escrow_sql.specs.declared.token.Token.{Token}
use Rattle.escrow_sql.specs.Token.{column_at}
use Rattle.escrow_sql.specs.Lex.{IsLexed}
use Rattle.escrow_sql.specs.Grammar.{Sentence, IsFirstFault}
use Rattle.escrow_sql.specs.Statement.{request}

-- the text asks this: its tokens are a sentence of the grammar, with this meaning
abbrev pub Asks : List ℕ → Request → Type 0
Asks text r = (tokens : List Token) × IsLexed text (Ok tokens) × Sentence request tokens r

-- the column is that of the text's first fault: the leftmost lexing fault, if there is one; else the first token such
-- that no sentence begins with the tokens up to it, or the column after a text that ends too early
abbrev pub IsFaultColumn : List ℕ → ℕ → Type 0
IsFaultColumn text column =
    IsLexed text (Err column)
    ⊎ ((tokens : List Token) × (k : ℕ) × IsLexed text (Ok tokens) × IsFirstFault request tokens k
    × (column ≡ column_at (drop k tokens) (length text)))

-- the fault of the text: its column, unless memory was refused
abbrev pub IsFaultIn : List ℕ → ParseFault → Type 0
IsFaultIn text (fault.Syntax column) = IsFaultColumn text column
IsFaultIn text fault.Memory = Unit {0}
