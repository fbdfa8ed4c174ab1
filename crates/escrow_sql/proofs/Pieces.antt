-- The lexer finds the pieces of a text, and their tokens.
use Rattle.std.proofs.Common.{◌≡◌, ℕ, zero, suc, ◌+◌, ◌≤◌, Bool, true, false, Result, Ok, Err, List, [], ◌∷◌, length, drop, arith, refl, sym, ap, ◌∙◌, subst, inl, inr}
use Rattle.std.specs.Prelude.{◌==◌, nat_lt, MatchBool}
use Rattle.std.proofs.lemmas.Bool.{cases_Bool, cond-true, cond-false, le-ltb}
use Rattle.std.proofs.lemmas.Bool.Decides.{nat_tests}
use Rattle.std.proofs.lemmas.List.{length-drop}
use Rattle.escrow_sql.specs.Lex.{IsPiece, IsTextPiece, plain_piece, ArePieces, tokens_at, with_token, IsLexed}
use Rattle.escrow_sql.specs.Scan.{piece_of, text_piece, IsWithin, tokens_from}
use Rattle.escrow_sql.specs.declared.lexer.TheConstants.{MAX_TEXT}
use Rattle.escrow_sql.specs.declared.lexer.piece.Piece.{Piece}
use Rattle.escrow_sql.specs.declared.lexer.piece.Piece.TheVariants as piece
use Rattle.escrow_sql.specs.declared.token.Token.{Token}
use Rattle.escrow_sql.proofs.PieceLemmas.{piece_of-within}
use Rattle.escrow_sql.proofs.QuotedLemmas.{text_piece-is, text_piece-only}
use Rattle.escrow_sql.proofs.TokenLemmas.{tokens_from-piece, tokens_from-behind}

match_true : (b : Bool) (P Q : Type 0) → b ≡ true → P → MatchBool b P Q
match_true b P Q e p = rw e p

match_false : (b : Bool) (P Q : Type 0) → b ≡ false → Q → MatchBool b P Q
match_false b P Q e q = rw e q

-- the lexer reads the piece with which the bytes begin, and there is no other such piece
is_piece : (c : ℕ) (next : List ℕ) → IsPiece (c ∷ next) (piece_of c next)
is_piece c next =
    elim (cases_Bool (c == 39)) [
      | inl e ↦ match_true (c == 39) _ _ e (subst (IsTextPiece next) (sym (cond-true (c == 39) (text_piece next) (plain_piece c next) e)) (text_piece-is next))
      | inr e ↦ match_false (c == 39) _ _ e (cond-false (c == 39) (text_piece next) (plain_piece c next) e)
    ]

only_piece : (c : ℕ) (next : List ℕ) (p : Piece) → IsPiece (c ∷ next) p → p ≡ piece_of c next
only_piece c next p h =
    elim (cases_Bool (c == 39)) [
      | inl e ↦ text_piece-only next p (rw e at h) ∙ sym (cond-true (c == 39) (text_piece next) (plain_piece c next) e)
      | inr e ↦ (rw e at h) ∙ sym (cond-false (c == 39) (text_piece next) (plain_piece c next) e)
    ]

-- the tokens of pieces are those that the lexer finds
tokens_of_pieces : (ps : List Piece) (at : ℕ) (bytes : List ℕ) → ArePieces bytes ps → tokens_at at ps ≡ tokens_from 0 at bytes
tokens_of_pieces [] at bytes h = ap (tokens_from 0 at) (sym h)
tokens_of_pieces (piece.Blank len ∷ ps) at [] h = absurd h.0
tokens_of_pieces (piece.Token k len ∷ ps) at [] h = absurd h.0
tokens_of_pieces (piece.Fault place ∷ ps) at [] h = absurd h.0
tokens_of_pieces (piece.Blank len ∷ ps) at (c ∷ next) h =
    let e = only_piece c next (piece.Blank len) h.0 in
    let w = subst (IsWithin (suc (length next))) (sym e) (piece_of-within c next) in
    tokens_of_pieces ps (at + len) (drop len (c ∷ next)) h.1 ∙ sym (tokens_from-piece c at next (piece.Blank len) e ∙ tokens_from-behind c next at len w.0)
tokens_of_pieces (piece.Token k len ∷ ps) at (c ∷ next) h =
    let e = only_piece c next (piece.Token k len) h.0 in
    let w = subst (IsWithin (suc (length next))) (sym e) (piece_of-within c next) in
    let t : Token = record { kind = k; start = at; end = at + len } in
    ap (with_token t) (tokens_of_pieces ps (at + len) (drop len (c ∷ next)) h.1)
    ∙ sym (tokens_from-piece c at next (piece.Token k len) e ∙ ap (with_token t) (tokens_from-behind c next at len w.0))
tokens_of_pieces (piece.Fault place ∷ ps) at (c ∷ next) h = sym (tokens_from-piece c at next (piece.Fault place) (only_piece c next (piece.Fault place) h.0))

pieces_with : (bytes : List ℕ) (p : Piece) → IsPiece bytes p → ((len : ℕ) → IsWithin (length bytes) (piece.Blank len) → (ps : List Piece) × ArePieces (drop len bytes) ps)
    → IsWithin (length bytes) p → (ps : List Piece) × ArePieces bytes ps
pieces_with bytes (piece.Blank len) h others w = let r = others len w in (piece.Blank len ∷ r.0, (h, r.1))
pieces_with bytes (piece.Token k len) h others w = let r = others len w in (piece.Token k len ∷ r.0, (h, r.1))
pieces_with bytes (piece.Fault place) h others w = (piece.Fault place ∷ [], (h, refl))

-- each text has pieces
pieces : (most : ℕ) (bytes : List ℕ) → length bytes ≤ most → (ps : List Piece) × ArePieces bytes ps
pieces most [] l = ([], refl)
pieces zero (c ∷ next) l = absurd (omega arith)
pieces (suc most) (c ∷ next) l =
    pieces_with (c ∷ next) (piece_of c next) (is_piece c next)
    (λ len w. pieces most (drop len (c ∷ next)) (omega (arith, w, length-drop len (c ∷ next)))) (piece_of-within c next)

-- a text is lexed as the lexer does, and in no other way
pub is_lexed : (text : List ℕ) (r : Result (List Token) ℕ) → length text ≤ MAX_TEXT → tokens_from 0 0 text ≡ r → IsLexed text r
is_lexed text r short h =
    let ps = pieces (length text) text (omega arith) in
    match_false (nat_lt MAX_TEXT (length text)) _ _ (le-ltb MAX_TEXT (length text) short) (ps.0, ps.1, sym h ∙ sym (tokens_of_pieces ps.0 0 text ps.1))

pub only_lexed : (text : List ℕ) (r : Result (List Token) ℕ) → length text ≤ MAX_TEXT → IsLexed text r → tokens_from 0 0 text ≡ r
only_lexed text r short h =
    let read : (ps : List Piece) × ArePieces text ps × (r ≡ tokens_at 0 ps) = rw (le-ltb MAX_TEXT (length text) short) at h in
    sym (read.2 ∙ tokens_of_pieces read.0 0 text read.1)

-- a text that has tokens is not too long
pub lexed_short : (text : List ℕ) (ts : List Token) → IsLexed text (Ok ts) → length text ≤ MAX_TEXT
lexed_short text ts h =
    elim (cases_Bool (nat_lt MAX_TEXT (length text))) [
      | inl e ↦ absurd (let long : ◌≡◌ {A = Result (List Token) ℕ} (Ok ts) (Err (MAX_TEXT + 1)) = rw e at h in cc)
      | inr e ↦ grind (arith, nat_tests)
    ]

-- lexing a text always gives the same result
pub lexed_once : (text : List ℕ) (r q : Result (List Token) ℕ) → IsLexed text r → IsLexed text q → r ≡ q
lexed_once text r q h k =
    elim (cases_Bool (nat_lt MAX_TEXT (length text))) [
      | inl e ↦
          let long : r ≡ Err (MAX_TEXT + 1) = rw e at h in
          let same : q ≡ Err (MAX_TEXT + 1) = rw e at k in
          long ∙ sym same
      | inr e ↦
          let short : length text ≤ MAX_TEXT = grind (arith, nat_tests) in
          sym (only_lexed text r short h) ∙ only_lexed text q short k
    ]

-- each text can be lexed
pub each_lexed : (text : List ℕ) → (r : Result (List Token) ℕ) × IsLexed text r
each_lexed text =
    elim (cases_Bool (nat_lt MAX_TEXT (length text))) [
      | inl e ↦ (Err (MAX_TEXT + 1), match_true (nat_lt MAX_TEXT (length text)) _ _ e refl)
      | inr e ↦ (tokens_from 0 0 text, is_lexed text (tokens_from 0 0 text) (grind (arith, nat_tests)) refl)
    ]
