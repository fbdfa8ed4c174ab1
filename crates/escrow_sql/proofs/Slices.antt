-- The bytes of a token, taken alone, are that token.
use Rattle.std.proofs.Common.{◌≡◌, ℕ, zero, suc, ◌+◌, ◌-◌, ◌≤◌, Bool, false, cond, Ok, List, [], ◌∷◌, length, drop, take, arith, refl, sym, ap, ap₂, ◌∙◌, subst, map, inl, inr}
use Rattle.std.specs.Prelude.{nat_lt, not, ◌&&◌, ◌==◌, if◌then◌else◌, slice_range}
use Rattle.std.specs.Char.{is_ascii_alphabetic, is_ascii_digit, to_ascii_uppercase}
use Rattle.std.specs.List.{prefix_len, AllByRecursion}
use Rattle.std.proofs.lemmas.Bool.{cond_both, cond-true, cond-false, cases_Bool, and_cases, and_left, and_right, eqb-true}
use Rattle.std.proofs.lemmas.List.{take-take, length-take-le, length-take, length-drop, drop-drop, get_or-take}
use Rattle.std.proofs.lemmas.List.Sums.{prefix_len_is, prefix_len-le-length, prefix_len_passes}
use Rattle.escrow_num.specs.declared.name.TheConstants.Name.{MAX_WRITTEN}
use Rattle.escrow_sql.specs.declared.lexer.TheConstants.{MAX_TEXT}
use Rattle.escrow_statement.specs.Word.{reserved}
use Rattle.escrow_sql.specs.declared.lexer.piece.Piece.{Piece}
use Rattle.escrow_sql.specs.declared.lexer.piece.Piece.TheVariants as piece
use Rattle.escrow_sql.specs.declared.token.Kind.{Kind}
use Rattle.escrow_sql.specs.declared.token.Kind.TheVariants as kind
use Rattle.escrow_sql.specs.declared.token.Symbol.TheVariants as symbol
use Rattle.escrow_sql.specs.declared.token.Token.{Token}
use Rattle.escrow_sql.specs.Lex.{plain_piece, name_piece, number_piece, symbol_piece, goes_on, is_blank, begins, word_or_name, IsItsSlice, with_token}
use Rattle.escrow_sql.specs.Scan.{piece_of, text_piece, IsWithin, tokens_from}
use Rattle.escrow_sql.proofs.NumberLemmas.{number_alone, number_token_len}
use Rattle.escrow_sql.proofs.PieceLemmas.{piece_of-within}
use Rattle.escrow_sql.proofs.Pieces.{is_lexed}
use Rattle.escrow_sql.proofs.QuotedLemmas.{text_alone}
use Rattle.escrow_sql.proofs.TokenLemmas.{after, by_piece, tokens_from-piece, with_token-Ok, whole_at_end}

-- a prefix that passes a test passes completely when taken alone
prefix_alone : (p : ℕ → Bool) (xs : List ℕ) → prefix_len p (take (prefix_len p xs) xs) ≡ prefix_len p xs
prefix_alone p xs =
    let n = prefix_len p xs in
    let whole : length (take n xs) ≡ n = length-take-le n xs (prefix_len-le-length p xs) in
    prefix_len_is p (take n xs) n 0 (omega arith)
    (λ k l. ap p (get_or-take n xs k 0 l) ∙ prefix_len_passes p xs k 0 l) (λ l. absurd (omega arith))

-- a name, given by its length and its bytes
abbrev name_with : ℕ → List ℕ → Piece
name_with len front =
    let upper = map to_ascii_uppercase front in
    if nat_lt MAX_WRITTEN len then piece.Fault 0 else piece.Token (word_or_name upper (reserved upper)) len

name_alone : (xs : List ℕ) → name_piece (take (prefix_len goes_on xs) xs) ≡ name_piece xs
unfolding name_piece
name_alone xs =
    let n = prefix_len goes_on xs in
    let e = prefix_alone goes_on xs in
    ap₂ (λ (l : ℕ) (front : List ℕ). name_with l front) e (ap (λ (l : ℕ). take l (take n xs)) e ∙ take-take n n xs (omega arith))

-- the length of a name's token
name_len : (xs : List ℕ) (k : Kind) (len : ℕ) → name_piece xs ≡ piece.Token k len → len ≡ prefix_len goes_on xs
unfolding name_piece
name_len xs k len h =
    let n = prefix_len goes_on xs in
    let upper = map to_ascii_uppercase (take n xs) in
    cond_both (nat_lt MAX_WRITTEN n) (piece.Fault 0) (piece.Token (word_or_name upper (reserved upper)) n) (λ (p : Piece). p ≡ piece.Token k len → len ≡ n) (λ e q. absurd (cc)) (λ e q. cc) h

-- a symbol other than `<` and `>` is the same whatever follows
symbol_other : (c : ℕ) (x y : List ℕ) → (c == 60) ≡ false → (c == 62) ≡ false → symbol_piece c x ≡ symbol_piece c y
unfolding symbol_piece
symbol_other c x y e f = rw (e, f) refl

pair_alone : (a b : Kind) (next : List ℕ) (k : Kind) (len : ℕ) → cond (begins 61 next) (piece.Token a 2) (piece.Token b 1) ≡ piece.Token k len
    → begins 61 (take (len - 1) next) ≡ begins 61 next
pair_alone a b [] k len h = let e : len ≡ 1 = cc in rw e refl
pair_alone a b (d ∷ ds) k len h =
    cond_both (d == 61) (piece.Token a 2) (piece.Token b 1) (λ (p : Piece). p ≡ piece.Token k len → begins 61 (take (len - 1) (d ∷ ds)) ≡ (d == 61))
    (λ s q. let e : len ≡ 2 = cc in rw e refl) (λ s q. let e : len ≡ 1 = cc in rw e (sym s)) h

below_alone : (next : List ℕ) (k : Kind) (len : ℕ) → symbol_piece 60 next ≡ piece.Token k len → symbol_piece 60 (take (len - 1) next) ≡ piece.Token k len
unfolding symbol_piece
below_alone next k len h = ap (λ (b : Bool). cond b (piece.Token (kind.Symbol symbol.AtMost) 2) (piece.Token (kind.Symbol symbol.Below) 1)) (pair_alone _ _ next k len h) ∙ h

above_alone : (next : List ℕ) (k : Kind) (len : ℕ) → symbol_piece 62 next ≡ piece.Token k len → symbol_piece 62 (take (len - 1) next) ≡ piece.Token k len
unfolding symbol_piece
above_alone next k len h = ap (λ (b : Bool). cond b (piece.Token (kind.Symbol symbol.AtLeast) 2) (piece.Token (kind.Symbol symbol.Above) 1)) (pair_alone _ _ next k len h) ∙ h

symbol_alone : (c : ℕ) (next : List ℕ) (k : Kind) (len : ℕ) → symbol_piece c next ≡ piece.Token k len → symbol_piece c (take (len - 1) next) ≡ piece.Token k len
symbol_alone c next k len h =
    elim (cases_Bool (c == 60)) [
      | inl e ↦
          let same = eqb-true c 60 e in
          subst (λ (d : ℕ). symbol_piece d (take (len - 1) next) ≡ piece.Token k len) (sym same) (below_alone next k len (subst (λ (d : ℕ). symbol_piece d next ≡ piece.Token k len) same h))
      | inr e ↦
          elim (cases_Bool (c == 62)) [
            | inl f ↦
                let same = eqb-true c 62 f in
                subst (λ (d : ℕ). symbol_piece d (take (len - 1) next) ≡ piece.Token k len) (sym same) (above_alone next k len (subst (λ (d : ℕ). symbol_piece d next ≡ piece.Token k len) same h))
            | inr f ↦ symbol_other c (take (len - 1) next) next e f ∙ h
          ]
    ]

-- bytes that do not begin a comment do not begin one when cut off
begins_alone : (b m : ℕ) (next : List ℕ) → begins b next ≡ false → begins b (take m next) ≡ false
begins_alone b zero next h = refl
begins_alone b (suc m) [] h = refl
begins_alone b (suc m) (d ∷ ds) h = h

no_comment : (c m : ℕ) (next : List ℕ) → (c == 45 && begins 45 next) ≡ false → (c == 45 && begins 45 (take m next)) ≡ false
no_comment c m next h =
    elim (and_cases (c == 45) (begins 45 next) h) [
      | inl e ↦ and_left (c == 45) (begins 45 (take m next)) e
      | inr e ↦ and_right (c == 45) (begins 45 (take m next)) (begins_alone 45 m next e)
    ]

-- the piece of bytes that begin with neither a blank nor a comment
abbrev token_piece : ℕ → List ℕ → Piece
token_piece c next =
    if is_ascii_alphabetic c then name_piece (c ∷ next)
    else if is_ascii_digit c then number_piece (c ∷ next)
    else symbol_piece c next

begins_token : (c : ℕ) (next : List ℕ) → is_blank c ≡ false → (c == 45 && begins 45 next) ≡ false → plain_piece c next ≡ token_piece c next
unfolding plain_piece
begins_token c next e f =
    cond-false (is_blank c) (piece.Blank 1) (if c == 45 && begins 45 next then piece.Blank (prefix_len (λ b. not (b == 10)) (c ∷ next)) else token_piece c next) e
    ∙ cond-false (c == 45 && begins 45 next) (piece.Blank (prefix_len (λ b. not (b == 10)) (c ∷ next))) (token_piece c next) f

one_front : (c len : ℕ) (next : List ℕ) → 1 ≤ len → take len (c ∷ next) ≡ c ∷ take (len - 1) next
one_front c zero next l = absurd (omega arith)
one_front c (suc len) next l = let e : suc len - 1 ≡ len = omega arith in rw e refl

token_alone : (c : ℕ) (next : List ℕ) (k : Kind) (len : ℕ) → 1 ≤ len → token_piece c next ≡ piece.Token k len → token_piece c (take (len - 1) next) ≡ piece.Token k len
token_alone c next k len one h =
    let short = take (len - 1) next in
    let front = one_front c len next one in
    elim (cases_Bool (is_ascii_alphabetic c)) [
      | inl e ↦
          let n = sym (cond-true (is_ascii_alphabetic c) (name_piece (c ∷ next)) (if is_ascii_digit c then number_piece (c ∷ next) else symbol_piece c next) e) ∙ h in
          let l = name_len (c ∷ next) k len n in
          cond-true (is_ascii_alphabetic c) (name_piece (c ∷ short)) (if is_ascii_digit c then number_piece (c ∷ short) else symbol_piece c short) e
          ∙ (ap name_piece (sym front ∙ ap (λ (m : ℕ). take m (c ∷ next)) l) ∙ (name_alone (c ∷ next) ∙ n))
      | inr e ↦
          let not_name = λ (x : List ℕ). cond-false (is_ascii_alphabetic c) (name_piece (c ∷ x)) (if is_ascii_digit c then number_piece (c ∷ x) else symbol_piece c x) e in
          elim (cases_Bool (is_ascii_digit c)) [
            | inl f ↦
                let n = sym (not_name next ∙ cond-true (is_ascii_digit c) (number_piece (c ∷ next)) (symbol_piece c next) f) ∙ h in
                let l = number_token_len (c ∷ next) k len n in
                not_name short ∙ (cond-true (is_ascii_digit c) (number_piece (c ∷ short)) (symbol_piece c short) f
                ∙ (ap number_piece (sym front ∙ ap (λ (m : ℕ). take m (c ∷ next)) l) ∙ (number_alone (c ∷ next) ∙ n)))
            | inr f ↦
                not_name short ∙ (cond-false (is_ascii_digit c) (number_piece (c ∷ short)) (symbol_piece c short) f
                ∙ symbol_alone c next k len (sym (not_name next ∙ cond-false (is_ascii_digit c) (number_piece (c ∷ next)) (symbol_piece c next) f) ∙ h))
          ]
    ]

no_blank : (c : ℕ) (next : List ℕ) (k : Kind) (len : ℕ) → plain_piece c next ≡ piece.Token k len → (is_blank c ≡ false) × ((c == 45 && begins 45 next) ≡ false)
unfolding plain_piece
no_blank c next k len h =
    let rest = if c == 45 && begins 45 next then piece.Blank (prefix_len (λ b. not (b == 10)) (c ∷ next)) else token_piece c next in
    elim (cases_Bool (is_blank c)) [
      | inl e ↦ absurd (let both : piece.Blank 1 ≡ piece.Token k len = sym (cond-true (is_blank c) (piece.Blank 1) rest e) ∙ h in cc)
      | inr e ↦
          elim (cases_Bool (c == 45 && begins 45 next)) [
            | inl f ↦ absurd (
                let both : piece.Blank (prefix_len (λ b. not (b == 10)) (c ∷ next)) ≡ piece.Token k len =
                sym (cond-false (is_blank c) (piece.Blank 1) rest e ∙ cond-true (c == 45 && begins 45 next) (piece.Blank (prefix_len (λ b. not (b == 10)) (c ∷ next))) (token_piece c next) f) ∙ h in cc)
            | inr f ↦ (e, f)
          ]
    ]

plain_alone : (c : ℕ) (next : List ℕ) (k : Kind) (len : ℕ) → 1 ≤ len → plain_piece c next ≡ piece.Token k len → plain_piece c (take (len - 1) next) ≡ piece.Token k len
plain_alone c next k len one h =
    let b = no_blank c next k len h in
    begins_token c (take (len - 1) next) b.0 (no_comment c (len - 1) next b.1) ∙ token_alone c next k len one (sym (begins_token c next b.0 b.1) ∙ h)

-- the bytes of a token, taken alone, begin with it
piece_alone : (c : ℕ) (next : List ℕ) (k : Kind) (len : ℕ) → 1 ≤ len → piece_of c next ≡ piece.Token k len → piece_of c (take (len - 1) next) ≡ piece.Token k len
piece_alone c next k len one h =
    let short = take (len - 1) next in
    elim (cases_Bool (c == 39)) [
      | inl e ↦ cond-true (c == 39) (text_piece short) (plain_piece c short) e ∙ text_alone next k len (sym (cond-true (c == 39) (text_piece next) (plain_piece c next) e) ∙ h)
      | inr e ↦ cond-false (c == 39) (text_piece short) (plain_piece c short) e ∙ plain_alone c next k len one (sym (cond-false (c == 39) (text_piece next) (plain_piece c next) e) ∙ h)
    ]

tokens_from-past : (skip at : ℕ) (bytes : List ℕ) → length bytes ≤ skip → tokens_from skip at bytes ≡ Ok []
tokens_from-past zero at [] l = refl
tokens_from-past (suc skip) at [] l = refl
tokens_from-past zero at (c ∷ next) l = absurd (omega arith)
tokens_from-past (suc skip) at (c ∷ next) l = tokens_from-past skip (at + 1) next (omega arith)

-- the tokens of a single token's bytes
one_token : (c : ℕ) (next : List ℕ) (k : Kind) (len : ℕ) → 1 ≤ len → piece_of c next ≡ piece.Token k len
    → tokens_from 0 0 (take len (c ∷ next)) ≡ Ok (record { kind = k; start = 0; end = len } ∷ [])
one_token c next k len one h =
    let short = take (len - 1) next in
    let t : Token = record { kind = k; start = 0; end = 0 + len } in
    let e : 0 + len ≡ len = omega arith in
    ap (tokens_from 0 0) (one_front c len next one) ∙ (tokens_from-piece c 0 short (piece.Token k len) (sym (piece_alone c next k len one h))
    ∙ (ap (with_token t) (tokens_from-past (len - 1) 1 short (omega (arith, length-take (len - 1) next)))
    ∙ ap (λ (n : ℕ). Ok (record { kind = k; start = 0; end = n } ∷ [])) e))

-- a token is the one read from the first of its bytes
abbrev IsRead : List ℕ → Token → Type 0
IsRead text t = tokens_from 0 0 (slice_range text t.start t.end) ≡ Ok (record { kind = t.kind; start = 0; end = t.end - t.start } ∷ [])

token_read : (text : List ℕ) (at c : ℕ) (next : List ℕ) (k : Kind) (len : ℕ) → drop at text ≡ c ∷ next → 1 ≤ len → piece_of c next ≡ piece.Token k len
    → IsRead text (record { kind = k; start = at; end = at + len })
token_read text at c next k len d one h =
    let e : at + len - at ≡ len = omega arith in
    ap (tokens_from 0 0) (ap₂ (λ (n : ℕ) (bytes : List ℕ). take n bytes) e d) ∙ (one_token c next k len one h
    ∙ ap (λ (n : ℕ). Ok (record { kind = k; start = 0; end = n } ∷ [])) (sym e))

drop_next : (text : List ℕ) (at c : ℕ) (next : List ℕ) → drop at text ≡ c ∷ next → drop (at + 1) text ≡ next
drop_next text at c next h = sym (drop-drop 1 at text) ∙ ap (drop 1) h

all_read-piece : (text : List ℕ) (at c : ℕ) (next : List ℕ) (p : Piece) (ts : List Token) → drop at text ≡ c ∷ next
    → ((skip : ℕ) (us : List Token) → tokens_from skip (at + 1) next ≡ Ok us → AllByRecursion (IsRead text) us)
    → IsWithin (suc (length next)) p → piece_of c next ≡ p → by_piece at next p ≡ Ok ts → AllByRecursion (IsRead text) ts
all_read-piece text at c next (piece.Blank len) ts d ih w e h = ih (len - 1) ts h
all_read-piece text at c next (piece.Token k len) ts d ih w e h =
    let t : Token = record { kind = k; start = at; end = at + len } in
    let u = with_token-Ok t (tokens_from (len - 1) (at + 1) next) ts h in
    subst (AllByRecursion (IsRead text)) (sym u.2) (token_read text at c next k len d w.0 e, ih (len - 1) u.0 u.1)
all_read-piece text at c next (piece.Fault place) ts d ih w e h = absurd (cc)

all_read : (text bytes : List ℕ) (skip at : ℕ) (ts : List Token) → drop at text ≡ bytes → tokens_from skip at bytes ≡ Ok ts → AllByRecursion (IsRead text) ts
all_read text [] skip at ts d h = let e : [] ≡ ts = cc in subst (AllByRecursion (IsRead text)) e tt
all_read text (c ∷ next) zero at ts d h =
    all_read-piece text at c next (piece_of c next) ts d (λ skip us. all_read text next skip (at + 1) us (drop_next text at c next d)) (piece_of-within c next) refl h
all_read text (c ∷ next) (suc skip) at ts d h = all_read text next skip (at + 1) ts (drop_next text at c next d) h

all_slices : (text : List ℕ) (ts : List Token) → length text ≤ MAX_TEXT → AllByRecursion (IsRead text) ts → AllByRecursion (IsItsSlice text) ts
all_slices text [] l h = tt
all_slices text (t ∷ ts) l h =
    let short : length (slice_range text t.start t.end) ≤ MAX_TEXT = omega (arith, length-take (t.end - t.start) (drop t.start text), length-drop t.start text) in
    (is_lexed (slice_range text t.start t.end) (Ok (record { kind = t.kind; start = 0; end = t.end - t.start } ∷ [])) short h.0, all_slices text ts l h.1)

-- each token that was read matches its slice
pub slices_at_end : (front : List Token) (text : List ℕ) (at : ℕ) → length text ≤ MAX_TEXT → length text ≤ at → after front (tokens_from 0 at (drop at text)) ≡ tokens_from 0 0 text
    → AllByRecursion (IsItsSlice text) front
slices_at_end front text at l past same = all_slices text front l (all_read text text 0 0 front refl (whole_at_end front text at past same))
