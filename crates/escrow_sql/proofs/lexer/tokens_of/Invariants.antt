use Rattle.std.proofs.Common.{◌≡◌, take}
use Rattle.escrow_sql.proofs.lexer.tokens_of.Given as goal

abbrev pub invariant-loop-lexeme : goal.invariant-loop-lexeme
invariant-loop-lexeme l = l.tokens ≡ take l.lexeme-index l.lexemes
