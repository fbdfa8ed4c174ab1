-- Believed: what laws say of texts.
use Rattle.std.specs.Prelude.{◌≡◌, ℕ, ℤ, ◌≤◌, ◌⊎◌, ◌↔◌, true, Some, None, Result, Ok, Err, List, ◌∷◌, ◌++◌, length}
use Rattle.escrow_num.specs.Amount.{is_numeral}
use Rattle.escrow_num.specs.Decimal.{decimal_spelled}
use Rattle.escrow_statement.specs.declared.statement.Request.{Request}
use Rattle.escrow_sql.specs.declared.lexer.TheConstants.{MAX_TEXT}
use Rattle.escrow_sql.specs.declared.token.Token.{Token}
use Rattle.escrow_sql.specs.Factored.{factored_request}
use Rattle.escrow_sql.specs.Grammar.{Sentence, IsFirstFault}
use Rattle.escrow_sql.specs.Lex.{IsLexed}
use Rattle.escrow_sql.specs.Parser.{Asks, IsFaultColumn}
use Rattle.escrow_sql.specs.Statement.{number, request}

-- each text has tokens or a lexing fault, and never two answers
pub record EachIsLexedOnce : Type 0 where
  pub lexed : (text : List ℕ) → (r : Result (List Token) ℕ) × IsLexed text r
  pub once : (text : List ℕ) (r q : Result (List Token) ℕ) → IsLexed text r → IsLexed text q → r ≡ q

-- a text alone is a number that means the millionths that it spells. If it spells none, its fault is at its first byte
pub record IsReadAsSpelled (text : List ℕ) : Type 0 where
  pub read : (millionths : ℤ) → decimal_spelled text ≡ Some millionths → (tokens : List Token)
      × IsLexed text (Ok tokens) × Sentence number tokens millionths
  pub fault : decimal_spelled text ≡ None → IsLexed text (Err 1)

-- this holds for digits, and for digits, a point and digits
pub record NumbersAreReadAsSpelled : Type 0 where
  pub whole : (digits : List ℕ) → is_numeral digits ≡ true → length digits ≤ MAX_TEXT → IsReadAsSpelled digits
  pub pointed : (front behind : List ℕ) → is_numeral front ≡ true → is_numeral behind ≡ true
      → length (front ++ 46 ∷ behind) ≤ MAX_TEXT → IsReadAsSpelled (front ++ 46 ∷ behind)

-- each text asks one thing, or has its fault at one column, and never both
pub record EachIsAnsweredOnce : Type 0 where
  pub answered : (text : List ℕ) → ((r : Request) × Asks text r) ⊎ ((column : ℕ) × IsFaultColumn text column)
  pub one_request : (text : List ℕ) (r q : Request) → Asks text r → Asks text q → r ≡ q
  pub one_column : (text : List ℕ) (c d : ℕ) → IsFaultColumn text c → IsFaultColumn text d → c ≡ d
  pub not_both : (text : List ℕ) (r : Request) (column : ℕ) → Asks text r → IsFaultColumn text column → ⊥

-- the grammar that is read, with SHOW moved out, has the sentences of the grammar of requests, with the same meanings
-- and the same first faults
pub record FactoringKeepsSentences : Type 0 where
  pub sentences : (tokens : List Token) (r : Request) → Sentence request tokens r ↔ Sentence factored_request tokens r
  pub faults : (tokens : List Token) (k : ℕ) → IsFirstFault request tokens k ↔ IsFirstFault factored_request tokens k

-- a text has at most 65,536 bytes
abbrev pub Limits : Type 0
Limits = MAX_TEXT ≡ 65536
