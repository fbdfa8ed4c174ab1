-- Printed words, symbols, names and numbers are read back as the same.
use Rattle.std.proofs.Common.{◌≡◌, ℕ, ℤ, pos, ◌+◌, ◌^◌, ◌≤◌, ◌<◌, Bool, true, false, Result, Ok, Err, List, [], ◌∷◌, ◌++◌, length, take, drop, map, Some, None, arith, rules, refl, sym, ap, ap₂, ◌∙◌, append_assoc, length-append, inl}
use Rattle.std.specs.Prelude.{codes, position, not, nat_lt, nat_le, ◌==◌, if◌then◌else◌}
use Rattle.std.specs.Char.{is_ascii_alphabetic, is_ascii_uppercase, is_ascii_digit, to_ascii_uppercase}
use Rattle.std.specs.Fmt.{decimal}
use Rattle.std.specs.List.{prefix_len, list_all}
use Rattle.std.specs.Str.{all_ascii_digits}
use Rattle.std.proofs.Math.Seq.{take-append_seam, drop-append_seam}
use Rattle.std.proofs.lemmas.Bool.{and_parts, and_from, or_left, not-true, le-leb, leb-true, le-ltb, cond-true, cond-false}
use Rattle.std.proofs.lemmas.Bool.Decides.{nat_tests}
use Rattle.std.proofs.lemmas.List.{append-nil}
use Rattle.std.proofs.lemmas.Fmt.{digits_decimal, digits_value-decimal, decimal_nonempty}
use Rattle.std.proofs.lemmas.Str.Ascii.{uppercase_is}
use Rattle.std.proofs.lemmas.Str.Parse.{IsNumeralModel, numerals_by_fold, tells_all_ascii_digits}
use Rattle.escrow_num.specs.Amount.{is_amount, is_numeral, number_after, number_of}
use Rattle.escrow_num.specs.Decimal.{millionths_of}
use Rattle.escrow_num.specs.Name.{is_name_byte, spells_name}
use Rattle.escrow_num.specs.declared.name.TheConstants.Name.{MAX_WRITTEN}
use Rattle.escrow_sql.specs.declared.lexer.piece.Piece.{Piece}
use Rattle.escrow_sql.specs.declared.lexer.piece.Piece.TheVariants as piece
use Rattle.escrow_sql.specs.declared.token.Kind.{Kind}
use Rattle.escrow_sql.specs.declared.token.Kind.TheVariants as kind
use Rattle.escrow_sql.specs.declared.token.Symbol.{Symbol}
use Rattle.escrow_sql.specs.declared.token.Symbol.TheVariants as symbols
use Rattle.escrow_sql.specs.declared.token.Token.{Token}
use Rattle.escrow_statement.specs.declared.word.Word.{Word}
use Rattle.escrow_statement.specs.declared.word.Word.TheVariants as words
use Rattle.escrow_sql.specs.Grammar.{Grammar, token}
use Rattle.escrow_sql.specs.Lex.{begins, doubled, goes_on, is_blank, is_forbidden, IsQuoted, quoted_piece, word_or_name, name_piece, front_digits, point_digits, point_piece, whole_piece, number_piece, symbol_piece, plain_piece, with_token}
use Rattle.escrow_sql.specs.Scan.{piece_of, tokens_from}
use Rattle.escrow_sql.specs.Statement.{word, symbol, in_parentheses, name, name_in, point, point_in, text, text_in, whole, whole_in}
use Rattle.escrow_sql.specs.Token.{class_of}
use Rattle.escrow_statement.specs.Word.{reserved, spelling}
use Rattle.escrow_sql.proofs.NumberLemmas.{behind_len, ends, front_whole, number_read}
use Rattle.escrow_sql.proofs.QuotedLemmas.{text_piece-only}
use Rattle.escrow_sql.proofs.TokenLemmas.{after, tokens_from-piece, tokens_from-behind}
use Rattle.escrow_sql.proofs.Writing.{Writes, is_behind, anything, weaker, writes_both, writes_joined}

with_one : (t : Token) (r : Result (List Token) ℕ) → with_token t r ≡ after (t ∷ []) r
with_one t (Ok ts) = refl
with_one t (Err column) = refl

no_quote : (rest : List ℕ) → is_behind rest ≡ true → begins 39 rest ≡ false
no_quote [] e = refl
no_quote (c ∷ cs) e = grind (arith, nat_tests)

-- bytes that begin with a token, whatever may follow, print it
writes_token : {V : Type 0} (P : List ℕ → Bool) (like k : Kind) (f : Kind → V) (c : ℕ) (cs : List ℕ) → class_of k ≡ class_of like
    → ((rest : List ℕ) → P rest ≡ true → piece_of c (cs ++ rest) ≡ piece.Token k (length (c ∷ cs))) → Writes P (token like f) (c ∷ cs) (f k)
writes_token P like k f c cs same reads = record {
  cut = λ rest at q.
      let len = length (c ∷ cs) in
      let t : Token = record { kind = k; start = at; end = at + len } in
      let left : drop len (c ∷ (cs ++ rest)) ≡ rest = drop-append_seam (c ∷ cs) rest in (
        t ∷ [],
        tokens_from-piece c at (cs ++ rest) (piece.Token k len) (sym (reads rest q))
            ∙ (ap (with_token t) (tokens_from-behind c (cs ++ rest) at len (omega arith) ∙ ap (tokens_from 0 (at + len)) left) ∙ with_one t (tokens_from 0 (at + len) rest)),
        (t, refl, same, refl),
      );
}

-- how each symbol is printed
abbrev pub written : Symbol → List ℕ
written symbols.Open = codes "("
written symbols.Close = codes ")"
written symbols.Comma = codes ","
written symbols.Semicolon = codes ";"
written symbols.Star = codes "*"
written symbols.Plus = codes "+"
written symbols.Minus = codes "-"
written symbols.Equal = codes "="
written symbols.Below = codes "<"
written symbols.AtMost = codes "<="
written symbols.Above = codes ">"
written symbols.AtLeast = codes ">="

-- a minus may not follow a minus: the two would begin a comment
abbrev pub no_minus : List ℕ → Bool
no_minus rest = not (begins 45 rest)

-- what may follow each symbol
abbrev pub may_follow : Symbol → List ℕ → Bool
may_follow symbols.Minus = no_minus
may_follow symbols.Below = is_behind
may_follow symbols.Above = is_behind
may_follow other = anything

no_equal : (rest : List ℕ) → is_behind rest ≡ true → begins 61 rest ≡ false
no_equal [] e = refl
no_equal (c ∷ cs) e = grind (arith, nat_tests)

mark : (s : Symbol) (P : List ℕ → Bool) (c : ℕ) (cs : List ℕ) → ((rest : List ℕ) → P rest ≡ true → piece_of c (cs ++ rest) ≡ piece.Token (kind.Symbol s) (length (c ∷ cs)))
    → Writes P (symbol s) (c ∷ cs) (tt {0})
mark s P c cs reads = writes_token P (kind.Symbol s) (kind.Symbol s) (λ k. tt {0}) c cs refl reads

pub writes_symbol : (s : Symbol) → Writes (may_follow s) (symbol s) (written s) (tt {0})
unfolding plain_piece symbol_piece
writes_symbol symbols.Minus = mark symbols.Minus no_minus 45 [] (λ rest q. let e = not-true (begins 45 rest) q in rw e refl)
writes_symbol symbols.Below = mark symbols.Below is_behind 60 [] (λ rest q. let e = no_equal rest q in rw e refl)
writes_symbol symbols.Above = mark symbols.Above is_behind 62 [] (λ rest q. let e = no_equal rest q in rw e refl)
writes_symbol other = mark other anything _ _ (λ rest q. refl)

-- whatever may follow a word may follow a symbol
behind_symbol : (s : Symbol) (rest : List ℕ) → is_behind rest ≡ true → may_follow s rest ≡ true
behind_symbol symbols.Minus [] q = refl
behind_symbol symbols.Minus (c ∷ cs) q = grind (arith, nat_tests)
behind_symbol symbols.Below rest q = q
behind_symbol symbols.Above rest q = q
behind_symbol other rest q = refl

pub writes_symbol_apart : (s : Symbol) → Writes is_behind (symbol s) (written s) (tt {0})
writes_symbol_apart s = weaker (behind_symbol s) (writes_symbol s)

pub writes_in_parentheses : {V : Type 0} {Q : List ℕ → Bool} {a : Grammar V} {s : List ℕ} {v : V} → Writes is_behind a s v → Writes Q (in_parentheses a) (codes "(" ++ (s ++ codes ")")) v
writes_in_parentheses w = writes_joined (writes_symbol symbols.Open) (writes_both w (λ rest q. refl) (weaker (λ rest q. refl) (writes_symbol symbols.Close)))

name_ends : (rest : List ℕ) → is_behind rest ≡ true → ends goes_on rest ≡ true
name_ends [] e = refl
name_ends (c ∷ cs) e = let u = uppercase_is c in grind (arith, nat_tests)

number_ends : (rest : List ℕ) → is_behind rest ≡ true → ends is_ascii_digit rest ≡ true
number_ends [] e = refl
number_ends (c ∷ cs) e = grind (arith, nat_tests)

-- it does not continue a number with a point either
no_point : (rest : List ℕ) → is_behind rest ≡ true → point_digits rest ≡ []
no_point [] e = refl
no_point (c ∷ cs) e = cond-false (c == 46) (front_digits cs) [] (grind (arith, nat_tests))

-- a name's bytes are in upper case, and a name may continue with them
byte_upper : (c : ℕ) → is_name_byte c ≡ true → to_ascii_uppercase c ≡ c
byte_upper c e = let u = uppercase_is c in grind (arith, nat_tests)

bytes_upper : (cs : List ℕ) → list_all is_name_byte cs ≡ true → (map to_ascii_uppercase cs ≡ cs) × (list_all goes_on cs ≡ true)
bytes_upper [] e = (refl, refl)
bytes_upper (c ∷ cs) e =
    let all = and_parts (is_name_byte c) (list_all is_name_byte cs) e in
    let same = byte_upper c all.0 in
    let others = bytes_upper cs all.1 in
    (ap₂ (λ (d : ℕ) (ds : List ℕ). d ∷ ds) same others.0, rw (same, all.0) others.1)

-- letters and digits are none of the bytes that begin other pieces
plain_byte : (c : ℕ) → 48 ≤ c → ((c == 39) ≡ false) × (is_blank c ≡ false) × ((c == 45) ≡ false)
plain_byte c h = (grind (arith, nat_tests), grind (arith, nat_tests), grind (arith, nat_tests))

-- a capital letter begins a name, and a digit a number
begins_name : (c : ℕ) (next : List ℕ) → is_ascii_uppercase c ≡ true → piece_of c next ≡ name_piece (c ∷ next)
unfolding plain_piece
begins_name c next h =
    let plain = plain_byte c (grind (arith, nat_tests)) in
    let letter : is_ascii_alphabetic c ≡ true = grind (arith, nat_tests) in
    rw (plain.0, plain.1, plain.2, letter) refl

pub begins_number : (c : ℕ) (next : List ℕ) → is_ascii_digit c ≡ true → piece_of c next ≡ number_piece (c ∷ next)
unfolding plain_piece
begins_number c next h =
    let plain = plain_byte c (grind (arith, nat_tests)) in
    let letter : is_ascii_alphabetic c ≡ false = grind (arith, nat_tests) in
    rw (plain.0, plain.1, plain.2, letter, h) refl

-- a name, given by its length and its bytes
abbrev name_with : ℕ → List ℕ → Piece
name_with len upper = if nat_lt MAX_WRITTEN len then piece.Fault 0 else piece.Token (word_or_name upper (reserved upper)) len

name_read : (n rest : List ℕ) → list_all is_name_byte n ≡ true → length n ≤ MAX_WRITTEN → is_behind rest ≡ true
    → name_piece (n ++ rest) ≡ piece.Token (word_or_name n (reserved n)) (length n)
unfolding name_piece
name_read n rest h short q =
    let upper = bytes_upper n h in
    let len : prefix_len goes_on (n ++ rest) ≡ length n = front_whole goes_on n rest upper.1 (name_ends rest q) in
    let front : map to_ascii_uppercase (take (prefix_len goes_on (n ++ rest)) (n ++ rest)) ≡ n =
    ap (λ (k : ℕ). map to_ascii_uppercase (take k (n ++ rest))) len ∙ (ap (map to_ascii_uppercase) (take-append_seam n rest) ∙ upper.0) in
    ap₂ name_with len front ∙ cond-false (nat_lt MAX_WRITTEN (length n)) (piece.Fault 0) (piece.Token (word_or_name n (reserved n)) (length n)) (le-ltb MAX_WRITTEN (length n) short)

whole_read : (digits rest : List ℕ) → list_all is_ascii_digit digits ≡ true → is_behind rest ≡ true → number_piece (digits ++ rest) ≡ whole_piece digits
whole_read digits rest h q =
    ap (λ (xs : List ℕ). number_piece (xs ++ rest)) (sym (append-nil digits)) ∙ number_read digits [] rest h refl (number_ends rest q) (no_point rest q)

-- the spelling of a name is read as a word or a name
writes_spelled : {V : Type 0} (like : Kind) (f : Kind → V) (n : List ℕ) (k : Kind) → spells_name n ≡ true → length n ≤ MAX_WRITTEN → word_or_name n (reserved n) ≡ k → class_of k ≡ class_of like
    → Writes is_behind (token like f) n (f k)
writes_spelled like f [] k h short e same = absurd (cc)
writes_spelled like f (c ∷ cs) k h short e same =
    let parts = and_parts (is_ascii_uppercase c) (list_all is_name_byte cs) h in
    let first : is_name_byte c ≡ true = or_left (is_ascii_uppercase c) _ parts.0 in
    let all : list_all is_name_byte (c ∷ cs) ≡ true = and_from (is_name_byte c) (list_all is_name_byte cs) first parts.1 in
    writes_token is_behind like k f c cs same
    (λ rest q. begins_name c (cs ++ rest) parts.0 ∙ (name_read (c ∷ cs) rest all short q ∙ ap (λ (l : Kind). piece.Token l (length (c ∷ cs))) e))

-- each reserved word is spelled like a name, and no other word is spelled the same
word_spelled : (w : Word) → (spells_name (spelling w) ≡ true) × (nat_le (length (spelling w)) MAX_WRITTEN ≡ true) × (reserved (spelling w) ≡ Some w)
word_spelled words.Add = (refl, refl, refl)
word_spelled other = (refl, refl, refl)

pub writes_word : (w : Word) → Writes is_behind (word w) (spelling w) (tt {0})
writes_word w =
    let s = word_spelled w in
    writes_spelled (kind.Word w) (λ k. tt {0}) (spelling w) (kind.Word w) s.0 (leb-true (length (spelling w)) MAX_WRITTEN s.1) (ap (word_or_name (spelling w)) s.2) refl

pub writes_name : (n : List ℕ) → spells_name n ≡ true → length n ≤ MAX_WRITTEN → reserved n ≡ None → Writes is_behind name n n
writes_name n h short free = writes_spelled (kind.Name []) name_in n (kind.Name n) h short (ap (word_or_name n) free) refl

pub digits_all : (ds : List ℕ) → all_ascii_digits ds ≡ true → list_all is_ascii_digit ds ≡ true
digits_all [] h = refl
digits_all (c ∷ cs) h = let p = and_parts (is_ascii_digit c) (all_ascii_digits cs) h in and_from (is_ascii_digit c) (list_all is_ascii_digit cs) p.0 (digits_all cs p.1)

-- digits without a point are a number without a point
pub whole_alone : (digits : List ℕ) → is_numeral digits ≡ true → number_piece digits ≡ whole_piece digits
whole_alone [] h = absurd (cc)
whole_alone (c ∷ cs) h = ap number_piece (sym (append-nil (c ∷ cs))) ∙ whole_read (c ∷ cs) [] (digits_all (c ∷ cs) h) refl

pub writes_digits : (n : ℕ) (ds : List ℕ) → all_ascii_digits ds ≡ true → 0 < length ds → number_of ds ≡ n → is_amount (pos n) ≡ true → Writes is_behind whole ds (pos n)
writes_digits n [] h long value small = absurd (omega arith)
writes_digits n (c ∷ cs) h long value small =
    let first = and_parts (is_ascii_digit c) (all_ascii_digits cs) h in
    writes_token is_behind (kind.Number (pos 0)) (kind.Number (pos n)) whole_in c cs refl
    (λ rest q. begins_number c (cs ++ rest) first.0 ∙ (whole_read (c ∷ cs) rest (digits_all (c ∷ cs) h) q
    ∙ (ap (λ (m : ℕ). if is_amount (pos m) then piece.Token (kind.Number (pos m)) (length (c ∷ cs)) else piece.Fault 0) value
    ∙ cond-true (is_amount (pos n)) (piece.Token (kind.Number (pos n)) (length (c ∷ cs))) (piece.Fault 0) small)))

-- the digits and the number of specs/Amount.antt are the printed ones
own : IsNumeralModel (λ ds. all_ascii_digits ds ≡ true) number_of
own = numerals_by_fold _ tells_all_ascii_digits number_after (search rules)

small_amount : (n : ℕ) → n ≤ 999999999999999 → is_amount (pos n) ≡ true
small_amount n h = le-leb n 999999999999999 h

-- a number without a point
pub writes_whole : (n : ℕ) → n ≤ 999999999999999 → Writes is_behind whole (decimal n) (pos n)
writes_whole n h =
    let fits : n < 2 ^ 64 = omega arith in
    writes_digits n (decimal n) (digits_decimal own n fits) (decimal_nonempty n fits) (digits_value-decimal own n fits) (small_amount n h)

-- a number with a point
pub writes_point : (front behind : List ℕ) (z : ℤ) → is_numeral front ≡ true → is_numeral behind ≡ true → millionths_of front behind ≡ Some z
    → Writes is_behind point (front ++ 46 ∷ behind) z
writes_point [] behind z h k value = absurd (cc)
writes_point (c ∷ cs) [] z h k value = absurd (cc)
writes_point (c ∷ cs) (d ∷ ds) z h k value =
    let first = and_parts (is_ascii_digit c) (all_ascii_digits cs) h in
    let len : length (c ∷ cs) + behind_len (d ∷ ds) ≡ length (c ∷ (cs ++ 46 ∷ d ∷ ds)) = omega (arith, length-append cs (46 ∷ d ∷ ds)) in
    writes_token is_behind (kind.Decimal (pos 0)) (kind.Decimal z) point_in c (cs ++ 46 ∷ d ∷ ds) refl
    (λ rest q. begins_number c ((cs ++ 46 ∷ d ∷ ds) ++ rest) first.0
    ∙ (number_read (c ∷ cs) (d ∷ ds) rest (digits_all (c ∷ cs) h) (digits_all (d ∷ ds) k) (number_ends rest q) (no_point rest q)
    ∙ ap₂ point_piece len value))

-- a text in quotes, with its quotes doubled, is read back if all of its characters are allowed
pub writes_text : (t : List ℕ) → position is_forbidden (doubled t) ≡ None → Writes is_behind text ((39 ∷ doubled t) ++ 39 ∷ []) t
writes_text t allowed =
    writes_token is_behind (kind.Text []) (kind.Text t) text_in 39 (doubled t ++ 39 ∷ []) refl
    (λ rest q.
    let long : length (39 ∷ (doubled t ++ 39 ∷ [])) ≡ length (doubled t) + 2 = omega (arith, length-append (doubled t) (39 ∷ [])) in
    let quoted : IsQuoted ((doubled t ++ 39 ∷ []) ++ rest) t rest = record { written = append_assoc (doubled t) (39 ∷ []) rest; ended = no_quote rest q } in
    sym (text_piece-only ((doubled t ++ 39 ∷ []) ++ rest) (quoted_piece t None) (inl (t, rest, quoted, ap (quoted_piece t) (sym allowed))))
    ∙ ap (piece.Token (kind.Text t)) (sym long))
