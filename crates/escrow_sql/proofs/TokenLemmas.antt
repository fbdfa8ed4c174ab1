-- The tokens from a place on, after one more piece.
use Rattle.std.proofs.Common.{◌≡◌, ℕ, zero, suc, ◌+◌, ◌-◌, ◌≤◌, ◌<◌, Result, Ok, Err, List, [], ◌∷◌, ◌++◌, length, get_or, drop, arith, refl, sym, ap, ap₂, ◌∙◌, subst, append_assoc, add-zero}
use Rattle.std.proofs.lemmas.List.{append-nil, at_drop_all, at_drop_more, drop-drop}
use Rattle.escrow_sql.specs.declared.lexer.piece.Piece.{Piece}
use Rattle.escrow_sql.specs.declared.lexer.piece.Piece.TheVariants as piece
use Rattle.escrow_sql.specs.declared.token.Kind.{Kind}
use Rattle.escrow_sql.specs.declared.token.Token.{Token}
use Rattle.escrow_sql.specs.declared.lexer.TheConstants.{MAX_TEXT}
use Rattle.escrow_sql.specs.Token.{AreInOrder, column_at}
use Rattle.escrow_sql.proofs.PieceLemmas.{piece_of-within}
use Rattle.escrow_sql.specs.Lex.{with_token}
use Rattle.escrow_sql.specs.Scan.{tokens_from, piece_of, IsWithin}

-- these tokens, followed by those
abbrev pub after : List Token → Result (List Token) ℕ → Result (List Token) ℕ
after front (Ok ts) = Ok (front ++ ts)
after front (Err column) = Err column

-- skipping bytes equals dropping them
tokens_from-skip : (skip at : ℕ) (bytes : List ℕ) → tokens_from skip at bytes ≡ tokens_from 0 (at + skip) (drop skip bytes)
tokens_from-skip zero at bytes = rw add-zero refl
tokens_from-skip (suc skip) at [] = refl
tokens_from-skip (suc skip) at (c ∷ next) =
    let e : at + 1 + skip ≡ at + suc skip = omega arith in
    tokens_from-skip skip (at + 1) next ∙ ap (λ (n : ℕ). tokens_from 0 n (drop skip next)) e

-- the text after a piece
behind : (text : List ℕ) (at len : ℕ) → 1 ≤ len → tokens_from (len - 1) (at + 1) (drop (at + 1) text) ≡ tokens_from 0 (at + len) (drop (at + len) text)
behind text at len one =
    let e : at + 1 + (len - 1) ≡ at + len = omega arith in
    let d : drop (len - 1) (drop (at + 1) text) ≡ drop (at + len) text = drop-drop _ _ text ∙ ap (λ (n : ℕ). drop n text) (omega arith) in
    tokens_from-skip (len - 1) (at + 1) (drop (at + 1) text) ∙ ap₂ (λ (n : ℕ) (bytes : List ℕ). tokens_from 0 n bytes) e d

pub tokens_from-behind : (c : ℕ) (next : List ℕ) (at len : ℕ) → 1 ≤ len → tokens_from (len - 1) (at + 1) next ≡ tokens_from 0 (at + len) (drop len (c ∷ next))
tokens_from-behind c next at zero one = absurd (omega arith)
tokens_from-behind c next at (suc len) one =
    let less : suc len - 1 ≡ len = omega arith in
    let end : at + 1 + len ≡ at + suc len = omega arith in
    ap (λ (n : ℕ). tokens_from n (at + 1) next) less ∙ (tokens_from-skip len (at + 1) next ∙ ap (λ (n : ℕ). tokens_from 0 n (drop len next)) end)

-- the tokens from a place on, given the piece at that place
abbrev pub by_piece : ℕ → List ℕ → Piece → Result (List Token) ℕ
by_piece at next (piece.Blank len) = tokens_from (len - 1) (at + 1) next
by_piece at next (piece.Token k len) = with_token (record { kind = k; start = at; end = at + len }) (tokens_from (len - 1) (at + 1) next)
by_piece at next (piece.Fault place) = Err (at + place + 1)

pub tokens_from-piece : (c at : ℕ) (next : List ℕ) (p : Piece) → p ≡ piece_of c next → tokens_from 0 at (c ∷ next) ≡ by_piece at next p
tokens_from-piece c at next p e = rw e refl

tokens_from-at : (text : List ℕ) (at : ℕ) (p : Piece) → at < length text → p ≡ piece_of (get_or text at 0) (drop (at + 1) text)
    → tokens_from 0 at (drop at text) ≡ by_piece at (drop (at + 1) text) p
tokens_from-at text at p below e =
    at_drop_more (tokens_from 0 at) text at 0 below ∙ tokens_from-piece (get_or text at 0) at (drop (at + 1) text) p e

pub tokens_from-blank : (text : List ℕ) (at len : ℕ) → at < length text → 1 ≤ len → piece.Blank len ≡ piece_of (get_or text at 0) (drop (at + 1) text)
    → tokens_from 0 at (drop at text) ≡ tokens_from 0 (at + len) (drop (at + len) text)
tokens_from-blank text at len below one e = tokens_from-at text at (piece.Blank len) below e ∙ behind text at len one

pub tokens_from-token : (text : List ℕ) (at len : ℕ) (k : Kind) → at < length text → 1 ≤ len → piece.Token k len ≡ piece_of (get_or text at 0) (drop (at + 1) text)
    → tokens_from 0 at (drop at text) ≡ with_token (record { kind = k; start = at; end = at + len }) (tokens_from 0 (at + len) (drop (at + len) text))
tokens_from-token text at len k below one e =
    tokens_from-at text at (piece.Token k len) below e ∙ ap (with_token (record { kind = k; start = at; end = at + len })) (behind text at len one)

tokens_from-fault : (text : List ℕ) (at place : ℕ) → at < length text → piece.Fault place ≡ piece_of (get_or text at 0) (drop (at + 1) text)
    → tokens_from 0 at (drop at text) ≡ Err (at + place + 1)
tokens_from-fault text at place below e = tokens_from-at text at (piece.Fault place) below e

pub after-token : (front : List Token) (t : Token) (rest : Result (List Token) ℕ) → after front (with_token t rest) ≡ after (front ++ t ∷ []) rest
after-token front t (Ok ts) = ap (λ (x : List Token). Ok x) (sym (append_assoc front (t ∷ []) ts))
after-token front t (Err column) = refl

-- the same after earlier tokens
pub after-blank : (front : List Token) (text : List ℕ) (at len : ℕ) (p : Piece) (whole : Result (List Token) ℕ) → at < length text → 1 ≤ len
    → p ≡ piece.Blank len → p ≡ piece_of (get_or text at 0) (drop (at + 1) text)
    → after front (tokens_from 0 at (drop at text)) ≡ whole → after front (tokens_from 0 (at + len) (drop (at + len) text)) ≡ whole
after-blank front text at len p whole below one e is same =
    sym (ap (after front) (tokens_from-blank text at len below one (sym e ∙ is))) ∙ same

pub after-one : (front : List Token) (text : List ℕ) (at len : ℕ) (k : Kind) (p : Piece) (whole : Result (List Token) ℕ) → at < length text → 1 ≤ len
    → p ≡ piece.Token k len → p ≡ piece_of (get_or text at 0) (drop (at + 1) text)
    → after front (tokens_from 0 at (drop at text)) ≡ whole
    → after (front ++ record { kind = k; start = at; end = at + len } ∷ []) (tokens_from 0 (at + len) (drop (at + len) text)) ≡ whole
after-one front text at len k p whole below one e is same =
    sym (after-token front (record { kind = k; start = at; end = at + len }) (tokens_from 0 (at + len) (drop (at + len) text)))
    ∙ (sym (ap (after front) (tokens_from-token text at len k below one (sym e ∙ is))) ∙ same)

in_order-moved : (from to near far : ℕ) (ts : List Token) → near ≤ from → to ≡ far → AreInOrder from to ts → AreInOrder near far ts
in_order-moved from to near far [] l e h = omega arith
in_order-moved from to near far (t ∷ ts) l e h = (omega (arith, h.0), h.1, subst (λ (n : ℕ). AreInOrder t.end n ts) e h.2)

pub with_token-Ok : (t : Token) (r : Result (List Token) ℕ) (ts : List Token) → with_token t r ≡ Ok ts → (us : List Token) × (r ≡ Ok us) × (ts ≡ t ∷ us)
with_token-Ok t (Ok us) ts h = (us, refl, cc)
with_token-Ok t (Err column) ts h = absurd (cc)

in_order-piece : (at : ℕ) (next : List ℕ) (p : Piece) (ts : List Token)
    → ((skip at : ℕ) (us : List Token) → skip ≤ length next → tokens_from skip at next ≡ Ok us → AreInOrder (at + skip) (at + length next) us)
    → IsWithin (suc (length next)) p → by_piece at next p ≡ Ok ts → AreInOrder at (at + suc (length next)) ts
in_order-piece at next (piece.Blank len) ts ih w h =
    in_order-moved (at + 1 + (len - 1)) (at + 1 + length next) at (at + suc (length next)) ts (omega arith) (omega arith) (ih (len - 1) (at + 1) ts (omega (arith, w)) h)
in_order-piece at next (piece.Token k len) ts ih w h =
    let t : Token = record { kind = k; start = at; end = at + len } in
    let u = with_token-Ok t (tokens_from (len - 1) (at + 1) next) ts h in
    let rest = in_order-moved (at + 1 + (len - 1)) (at + 1 + length next) (at + len) (at + suc (length next)) u.0 (omega (arith, w)) (omega arith) (ih (len - 1) (at + 1) u.0 (omega (arith, w)) u.1) in
    rw u.2 (omega arith, omega (arith, w), rest)
in_order-piece at next (piece.Fault place) ts ih w h = absurd (cc)

tokens_from-in_order : (bytes : List ℕ) (skip at : ℕ) (ts : List Token) → skip ≤ length bytes → tokens_from skip at bytes ≡ Ok ts → AreInOrder (at + skip) (at + length bytes) ts
tokens_from-in_order [] skip at ts l h =
    let e : [] ≡ ts = cc in
    subst (λ (us : List Token). AreInOrder (at + skip) (at + length {A = ℕ} []) us) e (omega arith)
tokens_from-in_order (c ∷ next) zero at ts l h =
    in_order-moved at (at + suc (length next)) (at + 0) (at + length (c ∷ next)) ts (omega arith) (omega arith)
    (in_order-piece at next (piece_of c next) ts (tokens_from-in_order next) (piece_of-within c next) h)
tokens_from-in_order (c ∷ next) (suc skip) at ts l h =
    in_order-moved (at + 1 + skip) (at + 1 + length next) (at + suc skip) (at + length (c ∷ next)) ts (omega arith) (omega arith)
    (tokens_from-in_order next skip (at + 1) ts (omega arith) h)

-- the tokens of a text are in order
pub tokens_in_order : (text : List ℕ) (ts : List Token) → tokens_from 0 0 text ≡ Ok ts → AreInOrder 0 (length text) ts
tokens_in_order text ts h =
    in_order-moved (0 + 0) (0 + length text) 0 (length text) ts (omega arith) (omega arith) (tokens_from-in_order text 0 0 ts (omega arith) h)

-- what holds of the tokens holds of the remaining ones
pub in_order-rest : (front rest : List Token) (from to : ℕ) → AreInOrder from to (front ++ rest) → (near : ℕ) × AreInOrder near to rest
in_order-rest [] rest from to h = (from, h)
in_order-rest (t ∷ front) rest from to h = in_order-rest front rest t.end to h.2

in_order-end : (ts : List Token) (from to : ℕ) → AreInOrder from to ts → from ≤ to
in_order-end [] from to h = h
in_order-end (t ∷ ts) from to h = omega (arith, h.0, h.1, in_order-end ts t.end to h.2)

-- a column of a text is in range
pub column_at-small : (ts : List Token) (from len : ℕ) → len ≤ MAX_TEXT → AreInOrder from len ts → column_at ts len ≤ MAX_TEXT + 1
column_at-small [] from len l h = omega arith
column_at-small (t ∷ ts) from len l h = omega (arith, h.1, in_order-end ts t.end len h.2)

-- after reading to the end, the tokens are complete
pub whole_at_end : (front : List Token) (text : List ℕ) (at : ℕ) → length text ≤ at → after front (tokens_from 0 at (drop at text)) ≡ tokens_from 0 0 text → tokens_from 0 0 text ≡ Ok front
whole_at_end front text at past same =
    let end = at_drop_all (λ (bytes : List ℕ). after front (tokens_from 0 at bytes)) text at past in
    sym same ∙ (end ∙ ap (λ (ts : List Token). Ok ts) (append-nil front))

-- the fault that lexing met is the text's fault
pub fault_met : (front : List Token) (text : List ℕ) (at place : ℕ) (p : Piece) → at < length text → p ≡ piece.Fault place → p ≡ piece_of (get_or text at 0) (drop (at + 1) text)
    → after front (tokens_from 0 at (drop at text)) ≡ tokens_from 0 0 text → tokens_from 0 0 text ≡ Err (at + place + 1)
fault_met front text at place p below e is same = sym same ∙ ap (after front) (tokens_from-fault text at place below (sym e ∙ is))

-- the tokens read up to the end are in order
pub spans_at_end : (front : List Token) (text : List ℕ) (at : ℕ) → length text ≤ at → after front (tokens_from 0 at (drop at text)) ≡ tokens_from 0 0 text → AreInOrder 0 (length text) front
spans_at_end front text at past same =
    tokens_in_order text front (whole_at_end front text at past same)
