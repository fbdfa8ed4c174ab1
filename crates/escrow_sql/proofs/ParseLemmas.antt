-- What parsing says about a text, given what lexing and reading say.
use Rattle.std.proofs.Common.{◌≡◌, ◌+◌, ◌≤◌, Result, Ok, Err, List, length, ℕ, sym, ap, ◌∙◌, subst, inr}
use Rattle.escrow_statement.specs.declared.statement.Request.{Request}
use Rattle.escrow_sql.specs.declared.lexer.TheConstants.{MAX_TEXT}
use Rattle.escrow_sql.specs.declared.token.Token.{Token}
use Rattle.escrow_sql.specs.Token.{AreInOrder, column_at}
use Rattle.escrow_sql.specs.Lex.{IsLexed}
use Rattle.escrow_sql.specs.Grammar.{Grammar, Sentence}
use Rattle.escrow_sql.specs.Predictive.{run_whole}
use Rattle.escrow_sql.specs.Statement.{request}
use Rattle.escrow_sql.specs.Factored.{factored_request}
use Rattle.escrow_sql.specs.Parser.{Asks, IsFaultColumn}
use Rattle.escrow_sql.proofs.Factoring.{factored, flipped, fault_kept}
use Rattle.escrow_sql.proofs.Faults.{read_sentence, sentence_read, first_fault}
use Rattle.escrow_sql.proofs.Pieces.{only_lexed, lexed_once, lexed_short}
use Rattle.escrow_sql.proofs.Predictive.{factored-is_predictive}
use Rattle.escrow_sql.proofs.Reading.{run_whole-leaves}
use Rattle.escrow_sql.proofs.TokenLemmas.{tokens_in_order, in_order-rest, column_at-small}

-- the column of a fault is in range
pub column_fits : {V : Type 0} (g : Grammar V) (text : List ℕ) (tokens read rest : List Token) → IsLexed text (Ok tokens) → read ≡ tokens → run_whole g read ≡ Err rest
    → column_at rest (length text) ≤ MAX_TEXT + 1
column_fits g text tokens read rest h e fault =
    let short = lexed_short text tokens h in
    let order = tokens_in_order text tokens (only_lexed text (Ok tokens) short h) in
    let left = run_whole-leaves g read rest fault in
    let near = in_order-rest left.0 rest 0 (length text) (subst (λ (ts : List Token). AreInOrder 0 (length text) ts) (sym e ∙ left.1) order) in
    column_at-small rest near.0 (length text) short near.1

-- the value read is the text's request
pub asked : (text : List ℕ) (tokens read : List Token) (r : Request) → IsLexed text (Ok tokens) → read ≡ tokens → run_whole factored_request read ≡ Ok r → Asks text r
asked text tokens read r h e ok = (tokens, h, factored.back tokens r (read_sentence factored_request factored-is_predictive tokens r (ap (run_whole factored_request) (sym e) ∙ ok)))

-- the text's request is the value that reading returns
pub answered : (text : List ℕ) (tokens : List Token) (r : Request) → IsLexed text (Ok tokens) → Asks text r → run_whole factored_request tokens ≡ Ok r
answered text tokens r h a =
    let both : ◌≡◌ {A = Result (List Token) ℕ} (Ok a.0) (Ok tokens) = lexed_once text (Ok a.0) (Ok tokens) a.1 h in
    let same : a.0 ≡ tokens = cc in
    sentence_read factored_request factored-is_predictive tokens r (factored.kept tokens r (subst (λ (ts : List Token). Sentence request ts r) same a.2))

-- if a text has no lexing fault, reading stops at its first fault
pub fault_column : (text : List ℕ) (tokens read rest : List Token) → IsLexed text (Ok tokens) → read ≡ tokens → run_whole factored_request read ≡ Err rest
    → IsFaultColumn text (column_at rest (length text))
fault_column text tokens read rest h e fault =
    let f = first_fault factored_request factored-is_predictive tokens rest (ap (run_whole factored_request) (sym e) ∙ fault) in
    inr (tokens, f.0, h, fault_kept (flipped factored) tokens f.0 f.1, ap (λ (ts : List Token). column_at ts (length text)) f.2)

-- a text with a request has neither a fault where reading stops nor a lexing fault
pub not_asked : (text : List ℕ) (tokens read rest : List Token) (r : Request) → IsLexed text (Ok tokens) → read ≡ tokens → run_whole factored_request read ≡ Err rest → Asks text r → ⊥
not_asked text tokens read rest r h e fault a =
    let both : ◌≡◌ {A = Result Request (List Token)} (Err rest) (Ok r) = sym fault ∙ (ap (run_whole factored_request) e ∙ answered text tokens r h a) in cc

pub not_lexed : (text : List ℕ) (column : ℕ) (r : Request) → IsLexed text (Err column) → Asks text r → ⊥
not_lexed text column r h a = let both : ◌≡◌ {A = Result (List Token) ℕ} (Err column) (Ok a.0) = lexed_once text (Err column) (Ok a.0) h a.1 in cc

-- two requests of one text are equal
pub asked_same : (text : List ℕ) (tokens read : List Token) (r q : Request) → IsLexed text (Ok tokens) → read ≡ tokens → run_whole factored_request read ≡ Ok r → Asks text q → r ≡ q
asked_same text tokens read r q h e ok a =
    let both : ◌≡◌ {A = Result Request (List Token)} (Ok r) (Ok q) = sym ok ∙ (ap (run_whole factored_request) e ∙ answered text tokens q h a) in cc

pub asks_once : (text : List ℕ) (r q : Request) → Asks text r → Asks text q → r ≡ q
asks_once text r q a b =
    let both : ◌≡◌ {A = Result Request (List Token)} (Ok r) (Ok q) = sym (answered text a.0 r a.1 a) ∙ answered text a.0 q a.1 b in cc
