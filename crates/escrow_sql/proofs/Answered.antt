-- Each text has one answer: its request, or the column of its fault.
use Rattle.std.proofs.Common.{◌≡◌, ℕ, ◌+◌, ◌≤◌, Result, Ok, Err, List, ◌++◌, length, take, drop, arith, refl, sym, ap, ap₂, ◌∙◌, subst, ◌⊎◌, inl, inr, append_assoc}
use Rattle.std.proofs.lemmas.Bool.{cases_lt}
use Rattle.std.proofs.lemmas.List.{take-append-drop, take-take}
use Rattle.escrow_sql.proofs.ParseLemmas.{asked, fault_column}
use Rattle.escrow_sql.proofs.Pieces.{each_lexed, lexed_once}
use Rattle.escrow_statement.specs.declared.statement.Request.{Request}
use Rattle.escrow_sql.specs.declared.token.Token.{Token}
use Rattle.escrow_sql.specs.Grammar.{Grammar, Sentence, Begins, IsFirstFault}
use Rattle.escrow_sql.specs.Lex.{IsLexed}
use Rattle.escrow_sql.specs.Factored.{factored_request}
use Rattle.escrow_sql.specs.Parser.{Asks, IsFaultColumn}
use Rattle.escrow_sql.specs.Predictive.{run_whole}
use Rattle.escrow_sql.specs.Statement.{request}
use Rattle.escrow_sql.specs.Token.{column_at}

same_tokens : (text : List ℕ) (a b : List Token) → IsLexed text (Ok a) → IsLexed text (Ok b) → a ≡ b
same_tokens text a b h k = let both : ◌≡◌ {A = Result (List Token) ℕ} (Ok a) (Ok b) = lexed_once text (Ok a) (Ok b) h k in cc

not_both_lexed : (text : List ℕ) (column : ℕ) (tokens : List Token) → IsLexed text (Err column) → IsLexed text (Ok tokens) → ⊥
not_both_lexed text column tokens h k = let both : ◌≡◌ {A = Result (List Token) ℕ} (Err column) (Ok tokens) = lexed_once text (Err column) (Ok tokens) h k in cc

answer_read : (text : List ℕ) (tokens : List Token) → IsLexed text (Ok tokens) → (read : Result Request (List Token)) → run_whole factored_request tokens ≡ read
    → ((r : Request) × Asks text r) ⊎ ((column : ℕ) × IsFaultColumn text column)
answer_read text tokens l (Ok r) e = inl (r, asked text tokens tokens r l refl e)
answer_read text tokens l (Err rest) e = inr (column_at rest (length text), fault_column text tokens tokens rest l refl e)

answer_lexed : (text : List ℕ) (lexed : Result (List Token) ℕ) → IsLexed text lexed → ((r : Request) × Asks text r) ⊎ ((column : ℕ) × IsFaultColumn text column)
answer_lexed text (Ok tokens) l = answer_read text tokens l (run_whole factored_request tokens) refl
answer_lexed text (Err column) l = inr (column, inl l)

-- each text has a request or a fault
pub some_answer : (text : List ℕ) → ((r : Request) × Asks text r) ⊎ ((column : ℕ) × IsFaultColumn text column)
some_answer text = let lexed = each_lexed text in answer_lexed text lexed.0 lexed.1

-- if a sentence begins with a prefix of tokens, one begins with each shorter prefix
begins_sooner : {V : Type 0} (g : Grammar V) (ts : List Token) (m n : ℕ) → n ≤ m → Begins g (take m ts) → Begins g (take n ts)
begins_sooner g ts m n l b =
    let front = take m ts in
    let parts : take n ts ++ drop n front ≡ front = ap (λ (us : List Token). us ++ drop n front) (sym (take-take n m ts l)) ∙ take-append-drop n front in
    let joined : front ++ b.0 ≡ take n ts ++ (drop n front ++ b.0) = ap (λ (us : List Token). us ++ b.0) (sym parts) ∙ append_assoc (take n ts) (drop n front) b.0 in
    (drop n front ++ b.0, b.1, subst (λ (us : List Token). Sentence g us b.1) joined b.2)

no_later : {V : Type 0} (g : Grammar V) (ts : List Token) (k l : ℕ) → IsFirstFault g ts k → IsFirstFault g ts l → l ≤ k
no_later g ts k l a b =
    elim (cases_lt k l) [
      | inl sooner ↦
          let within = b.within in
          absurd (a.unexpected (omega arith) (begins_sooner g ts l (k + 1) (omega arith) b.begins))
      | inr later ↦ omega arith
    ]

-- a fault has only one column
pub one_column : (text : List ℕ) (c d : ℕ) → IsFaultColumn text c → IsFaultColumn text d → c ≡ d
one_column text c d (inl a) (inl b) = let both : ◌≡◌ {A = Result (List Token) ℕ} (Err c) (Err d) = lexed_once text (Err c) (Err d) a b in cc
one_column text c d (inl a) (inr b) = absurd (not_both_lexed text c b.0 a b.2)
one_column text c d (inr a) (inl b) = absurd (not_both_lexed text d a.0 b a.2)
one_column text c d (inr a) (inr b) =
    let tokens : b.0 ≡ a.0 = same_tokens text b.0 a.0 b.2 a.2 in
    let fault : IsFirstFault request a.0 b.1 = subst (λ (ts : List Token). IsFirstFault request ts b.1) tokens b.3 in
    let place : a.1 ≡ b.1 = omega (arith, no_later request a.0 a.1 b.1 a.3 fault, no_later request a.0 b.1 a.1 fault a.3) in
    a.4 ∙ (ap₂ (λ (k : ℕ) (ts : List Token). column_at (drop k ts) (length text)) place (sym tokens) ∙ sym b.4)

-- a text with a request has no fault
pub not_both : (text : List ℕ) (r : Request) (column : ℕ) → Asks text r → IsFaultColumn text column → ⊥
not_both text r column a (inl f) = not_both_lexed text column a.0 f a.1
not_both text r column a (inr f) =
    let tokens : a.0 ≡ f.0 = same_tokens text a.0 f.0 a.1 f.2 in
    let sentence : Sentence request f.0 r = subst (λ (ts : List Token). Sentence request ts r) tokens a.2 in
    let within = f.3.within in
    elim (cases_lt f.1 (length f.0)) [
      | inl before ↦
          f.3.unexpected before
          (drop (f.1 + 1) f.0, r, subst (λ (ts : List Token). Sentence request ts r) (sym (take-append-drop (f.1 + 1) f.0)) sentence)
      | inr end ↦ f.3.too_short (omega arith) r sentence
    ]
