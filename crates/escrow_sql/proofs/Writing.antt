-- A text printed by the rules of a grammar is read as the sentence of that grammar, whatever may follow it.
use Rattle.std.proofs.Common.{◌≡◌, ℕ, ◌+◌, ◌≤◌, Bool, true, Result, Ok, Err, List, [], ◌∷◌, ◌++◌, length, refl, sym, ap, ◌∙◌, subst, append_assoc, arith, length-append, inl, inr}
use Rattle.std.specs.Prelude.{◌==◌, ◌||◌}
use Rattle.std.proofs.lemmas.List.{append-nil}
use Rattle.escrow_sql.specs.declared.lexer.piece.Piece.TheVariants as piece
use Rattle.escrow_sql.specs.declared.token.Token.{Token}
use Rattle.escrow_sql.specs.Grammar.{Grammar, nothing, sequence, either, many, Sentence, Repeats}
use Rattle.escrow_sql.specs.Lex.{IsLexed, is_blank, plain_piece}
use Rattle.escrow_sql.specs.Scan.{tokens_from}
use Rattle.escrow_sql.specs.Parser.{Asks}
use Rattle.escrow_sql.specs.Statement.{meaning, request}
use Rattle.escrow_sql.specs.declared.lexer.TheConstants.{MAX_TEXT}
use Rattle.escrow_statement.specs.declared.statement.Request.{Request}
use Rattle.escrow_sql.proofs.Pieces.{is_lexed}
use Rattle.escrow_sql.proofs.TokenLemmas.{after, tokens_from-piece, tokens_from-behind}

-- what may follow a word, a name or a number: nothing, a blank, or one of ( ) , ;
abbrev pub is_behind : List ℕ → Bool
is_behind [] = true
is_behind (c ∷ cs) = is_blank c || (c == 40 || (c == 41 || (c == 44 || c == 59)))

-- any bytes may follow
abbrev pub anything : List ℕ → Bool
anything rest = true

-- the text prints the value by the grammar: before all bytes with P, its tokens are a sentence with that value, and
-- the bytes' own tokens follow
pub record Writes {V : Type 0} (P : List ℕ → Bool) (g : Grammar V) (text : List ℕ) (v : V) : Type 0 where
  pub cut : (rest : List ℕ) (at : ℕ) → P rest ≡ true
      → (ts : List Token) × (tokens_from 0 at (text ++ rest) ≡ after ts (tokens_from 0 (at + length text) rest)) × Sentence g ts v

after-append : (s t : List Token) (r : Result (List Token) ℕ) → after s (after t r) ≡ after (s ++ t) r
after-append s t (Ok ts) = ap (λ (us : List Token). Ok us) (sym (append_assoc s t ts))
after-append s t (Err column) = refl

after-none : (r : Result (List Token) ℕ) → r ≡ after [] r
after-none (Ok ts) = refl
after-none (Err column) = refl

-- the tokens of two concatenated texts
cut_both : (s t rest : List ℕ) (at : ℕ) (x y : List Token) → tokens_from 0 at (s ++ (t ++ rest)) ≡ after x (tokens_from 0 (at + length s) (t ++ rest))
    → tokens_from 0 (at + length s) (t ++ rest) ≡ after y (tokens_from 0 (at + length s + length t) rest)
    → tokens_from 0 at ((s ++ t) ++ rest) ≡ after (x ++ y) (tokens_from 0 (at + length (s ++ t)) rest)
cut_both s t rest at x y e f =
    let end : at + length s + length t ≡ at + length (s ++ t) = omega (arith, length-append s t) in
    ap (tokens_from 0 at) (append_assoc s t rest) ∙ (e ∙ (ap (after x) f ∙ (after-append x y (tokens_from 0 (at + length s + length t) rest)
    ∙ ap (λ (n : ℕ). after (x ++ y) (tokens_from 0 n rest)) end)))

-- two texts in order, if the second text and what may follow it may follow the first
pub writes_both : {A B V : Type 0} {P Q : List ℕ → Bool} {a : Grammar A} {b : Grammar B} {f : A → B → V} {s t : List ℕ} {x : A} {y : B}
    → Writes P a s x → ((rest : List ℕ) → Q rest ≡ true → P (t ++ rest) ≡ true) → Writes Q b t y → Writes Q (sequence a b f) (s ++ t) (f x y)
writes_both {s = s} {t = t} {x = x} {y = y} l follows r = record {
  cut = λ rest at q.
      let one = l.cut (t ++ rest) at (follows rest q) in
      let two = r.cut rest (at + length s) q in
      (one.0 ++ two.0, cut_both s t rest at one.0 two.0 one.1 two.1, (one.0, two.0, x, y, refl, one.2, two.2, refl));
}

-- the same if less may follow
pub weaker : {V : Type 0} {P Q : List ℕ → Bool} {g : Grammar V} {s : List ℕ} {v : V} → ((rest : List ℕ) → Q rest ≡ true → P rest ≡ true) → Writes P g s v → Writes Q g s v
weaker follows w = record { cut = λ rest at q. w.cut rest at (follows rest q) }

pub writes_joined : {A B V : Type 0} {Q : List ℕ → Bool} {a : Grammar A} {b : Grammar B} {f : A → B → V} {s t : List ℕ} {x : A} {y : B}
    → Writes anything a s x → Writes Q b t y → Writes Q (sequence a b f) (s ++ t) (f x y)
writes_joined l r = writes_both l (λ rest q. refl) r

-- if a text may follow, so may that text and more
behind_both : (t rest : List ℕ) → is_behind t ≡ true → is_behind rest ≡ true → is_behind (t ++ rest) ≡ true
behind_both [] rest e f = f
behind_both (c ∷ cs) rest e f = e

pub writes_apart : {A B V : Type 0} {a : Grammar A} {b : Grammar B} {f : A → B → V} {s t : List ℕ} {x : A} {y : B}
    → Writes is_behind a s x → is_behind t ≡ true → Writes is_behind b t y → Writes is_behind (sequence a b f) (s ++ t) (f x y)
writes_apart {t = t} l e r = writes_both l (λ rest q. behind_both t rest e q) r

-- a blank has no token
blank_first : (next : List ℕ) (at : ℕ) → tokens_from 0 at (32 ∷ next) ≡ tokens_from 0 (at + 1) next
unfolding plain_piece
blank_first next at = tokens_from-piece 32 at next (piece.Blank 1) refl ∙ tokens_from-behind 32 next at 1 (omega arith)

pub writes_blank : {V : Type 0} {P : List ℕ → Bool} {g : Grammar V} {s : List ℕ} {v : V} → Writes P g s v → Writes P g (32 ∷ s) v
writes_blank {s = s} w = record {
  cut = λ rest at q.
      let c = w.cut rest (at + 1) q in
      let end : at + 1 + length s ≡ at + length (32 ∷ s) = omega arith in
      (c.0, blank_first (s ++ rest) at ∙ (c.1 ∙ ap (λ (n : ℕ). after c.0 (tokens_from 0 n rest)) end), c.2);
}

pub writes_spaced : {V : Type 0} {P : List ℕ → Bool} {g : Grammar V} {s : List ℕ} {v : V} → Writes is_behind g s v → Writes P g (s ++ 32 ∷ []) v
writes_spaced {s = s} w = record {
  cut = λ rest at q.
      let c = w.cut (32 ∷ rest) at refl in
      let end : at + length s + 1 ≡ at + length (s ++ 32 ∷ []) = omega (arith, length-append s (32 ∷ [])) in (
        c.0,
        ap (tokens_from 0 at) (append_assoc s (32 ∷ []) rest) ∙ (c.1 ∙ ap (after c.0) (blank_first rest (at + length s) ∙ ap (λ (n : ℕ). tokens_from 0 n rest) end)),
        c.2,
      );
}

-- one alternative or the other
pub writes_left : {V : Type 0} {P : List ℕ → Bool} {a b : Grammar V} {s : List ℕ} {v : V} → Writes P a s v → Writes P (either a b) s v
writes_left w = record { cut = λ rest at q. let c = w.cut rest at q in (c.0, c.1, inl c.2) }

pub writes_right : {V : Type 0} {P : List ℕ → Bool} {a b : Grammar V} {s : List ℕ} {v : V} → Writes P b s v → Writes P (either a b) s v
writes_right w = record { cut = λ rest at q. let c = w.cut rest at q in (c.0, c.1, inr c.2) }

pub writes_nothing : {V : Type 0} {P : List ℕ → Bool} {v : V} → Writes P (nothing v) [] v
writes_nothing = record { cut = λ rest at q. ([], ap (λ (n : ℕ). tokens_from 0 n rest) (omega arith) ∙ after-none _, (refl, refl)) }

-- one text, and a part that prints nothing
pub writes_first : {A B V : Type 0} {P : List ℕ → Bool} {a : Grammar A} {b : Grammar B} {f : A → B → V} {s : List ℕ} {x : A} {y : B}
    → Writes P a s x → Writes P b [] y → Writes P (sequence a b f) s (f x y)
writes_first {P = P} {a = a} {b = b} {f = f} {s = s} {x = x} {y = y} l r =
    subst (λ (t : List ℕ). Writes P (sequence a b f) t (f x y)) (append-nil s) (writes_both l (λ rest q. q) r)

pub writes_meaning : {A V : Type 0} {P : List ℕ → Bool} {f : A → V} {a : Grammar A} {s : List ℕ} {x : A} → Writes P a s x → Writes P (meaning f a) s (f x)
writes_meaning w = writes_first w writes_nothing

-- any number of items
pub none_more : {A V : Type 0} {P : List ℕ → Bool} {a : Grammar A} {f : List A → V} → Writes P (many a f) [] (f [])
none_more = record { cut = λ rest at q. ([], ap (λ (n : ℕ). tokens_from 0 n rest) (omega arith) ∙ after-none _, ([], refl, refl)) }

-- one more item in front, if the others and what may follow them may follow it
pub more_both : {A V : Type 0} {P Q : List ℕ → Bool} {a : Grammar A} {f : List A → V} {s t : List ℕ} {x : A} {xs : List A}
    → Writes P a s x → ((rest : List ℕ) → Q rest ≡ true → P (t ++ rest) ≡ true) → Writes Q (many a (λ ys. ys)) t xs → Writes Q (many a f) (s ++ t) (f (x ∷ xs))
more_both {a = a} {s = s} {t = t} {x = x} {xs = xs} l follows r = record {
  cut = λ rest at q.
      let one = l.cut (t ++ rest) at (follows rest q) in
      let two = r.cut rest (at + length s) q in
      let others = subst (Repeats (Sentence a) two.0) (sym two.2.2) two.2.1 in
      (one.0 ++ two.0, cut_both s t rest at one.0 two.0 one.1 two.1, (x ∷ xs, (one.0, two.0, refl, one.2, others), refl));
}

pub one_more : {A V : Type 0} {a : Grammar A} {f : List A → V} {s t : List ℕ} {x : A} {xs : List A}
    → Writes is_behind a s x → is_behind t ≡ true → Writes is_behind (many a (λ ys. ys)) t xs → Writes is_behind (many a f) (s ++ t) (f (x ∷ xs))
one_more {t = t} l e r = more_both l (λ rest q. behind_both t rest e q) r

-- a text that prints a value has tokens that mean it
pub reads_written : {V : Type 0} {g : Grammar V} {text : List ℕ} {v : V} → Writes is_behind g text v → length text ≤ MAX_TEXT
    → (tokens : List Token) × IsLexed text (Ok tokens) × Sentence g tokens v
reads_written {text = text} w short =
    let c = w.cut [] 0 refl in
    let lexed : tokens_from 0 0 text ≡ Ok c.0 = ap (tokens_from 0 0) (sym (append-nil text)) ∙ (c.1 ∙ ap (λ (ts : List Token). Ok ts) (append-nil c.0)) in
    (c.0, is_lexed text (Ok c.0) short lexed, c.2)

-- a text that prints a request has that request
pub asks_written : {text : List ℕ} {r : Request} → Writes is_behind request text r → length text ≤ MAX_TEXT → Asks text r
asks_written w short = reads_written w short
