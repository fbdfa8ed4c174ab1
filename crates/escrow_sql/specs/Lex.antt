-- Believed: what the tokens of a text are, and where its leftmost lexing fault is.
use Rattle.std.specs.Prelude.{◌≡◌, ℕ, ℤ, pos, ◌+◌, ◌-◌, ◌==◌, Bool, false, not, ◌&&◌, ◌||◌, nat_lt, if◌then◌else◌, MatchBool, ◌⊎◌, Option, Some, None, Result, Ok, Err, List, [], ◌∷◌, ◌++◌, length, take, drop, map, position, slice_range}
use Rattle.std.specs.Char.{is_ascii_alphabetic, is_ascii_digit, to_ascii_uppercase}
use Rattle.std.specs.List.{prefix_len}
use Rattle.escrow_num.specs.Amount.{is_amount, number_of}
use Rattle.escrow_num.specs.Decimal.{millionths_of}
use Rattle.escrow_num.specs.Name.{is_name_byte}
use Rattle.escrow_num.specs.declared.name.TheConstants.Name.{MAX_WRITTEN}
use Rattle.escrow_statement.specs.Word.{reserved}
use Rattle.escrow_statement.specs.declared.word.Word.{Word}
use Rattle.escrow_sql.specs.declared.token.Symbol.TheVariants as symbol
use Rattle.escrow_sql.specs.declared.token.Kind.{Kind}
use Rattle.escrow_sql.specs.declared.token.Kind.TheVariants as kind
use Rattle.escrow_sql.specs.declared.token.Token.{Token}
use Rattle.escrow_sql.specs.declared.fault.ParseFault.{ParseFault}
use Rattle.escrow_sql.specs.declared.fault.ParseFault.TheVariants as fault
use Rattle.escrow_sql.specs.declared.lexer.TheConstants.{MAX_TEXT}
use Rattle.escrow_sql.specs.declared.lexer.piece.Piece.{Piece}
use Rattle.escrow_sql.specs.declared.lexer.piece.Piece.TheVariants as piece

-- blanks are space, tab, carriage return and line feed
abbrev pub is_blank : ℕ → Bool
is_blank c = c == 32 || (c == 9 || (c == 13 || c == 10))

-- the bytes that may continue a name: ASCII letters of either case, digits, `_`, `$` and `#`
abbrev pub goes_on : ℕ → Bool
goes_on c = is_name_byte (to_ascii_uppercase c)

-- the characters that a text may not contain: those below U+0020, and U+007F
abbrev pub is_forbidden : ℕ → Bool
is_forbidden c = nat_lt c 32 || c == 127

-- whether the bytes begin with this one
abbrev pub begins : ℕ → List ℕ → Bool
begins c [] = false
begins c (d ∷ ds) = d == c

-- a reserved word, or else a name, of these bytes in upper case
abbrev pub word_or_name : List ℕ → Option Word → Kind
word_or_name upper (Some w) = kind.Word w
word_or_name upper None = kind.Name upper

-- the name at the front, as long as it continues, in upper case; too long a name is a fault
unfoldable pub name_piece : List ℕ → Piece
name_piece bytes =
    let len = prefix_len goes_on bytes in
    let upper = map to_ascii_uppercase (take len bytes) in
    if nat_lt MAX_WRITTEN len then piece.Fault 0 else piece.Token (word_or_name upper (reserved upper)) len

-- the digits at the front
abbrev pub front_digits : List ℕ → List ℕ
front_digits bytes = take (prefix_len is_ascii_digit bytes) bytes

-- the digits right after a point at the front, if there is a point
abbrev pub point_digits : List ℕ → List ℕ
point_digits [] = []
point_digits (c ∷ cs) = if c == 46 then front_digits cs else []

-- the digits right after a point that follows the digits at the front
abbrev pub behind_digits : List ℕ → List ℕ
behind_digits bytes = point_digits (drop (length (front_digits bytes)) bytes)

-- a number without a point; one that is no amount is a fault at its first digit
abbrev pub whole_piece : List ℕ → Piece
whole_piece digits =
    if is_amount (pos (number_of digits)) then piece.Token (kind.Number (pos (number_of digits))) (length digits)
    else piece.Fault 0

-- a number with a point, of `len` bytes; one that is no decimal is a fault at its first digit too
abbrev pub point_piece : ℕ → Option ℤ → Piece
point_piece len None = piece.Fault 0
point_piece len (Some millionths) = piece.Token (kind.Decimal millionths) len

-- the number of the digits before a point and those after it; without digits after it, the point isn't part of the
-- number
abbrev pub number_with : List ℕ → List ℕ → Piece
number_with front [] = whole_piece front
number_with front (d ∷ ds) = point_piece (length front + (1 + length (d ∷ ds))) (millionths_of front (d ∷ ds))

-- the number at the front, as long as it continues: digits, and a point if a digit follows it
unfoldable pub number_piece : List ℕ → Piece
number_piece bytes = number_with (front_digits bytes) (behind_digits bytes)

-- a text with each quote in it twice
abbrev pub doubled : List ℕ → List ℕ
doubled [] = []
doubled (c ∷ cs) = if c == 39 then 39 ∷ 39 ∷ doubled cs else c ∷ doubled cs

-- the bytes after an opening quote are a text with each quote doubled, a quote that no quote follows, and the rest
pub record IsQuoted (bytes text rest : List ℕ) : Type 0 where
  pub written : bytes ≡ doubled text ++ 39 ∷ rest
  pub ended : begins 39 rest ≡ false

-- a text in quotes, which take two bytes more, or the fault at its first forbidden character
abbrev pub quoted_piece : List ℕ → Option ℕ → Piece
quoted_piece text None = piece.Token (kind.Text text) (length (doubled text) + 2)
quoted_piece text (Some place) = piece.Fault (1 + place)

-- what an opening quote before the bytes begins: the text in quotes, or a fault at the quote if there is none
abbrev pub IsTextPiece : List ℕ → Piece → Type 0
IsTextPiece bytes p =
    ((text : List ℕ) × (rest : List ℕ) × IsQuoted bytes text rest
    × (p ≡ quoted_piece text (position is_forbidden (doubled text))))
    ⊎ (((text rest : List ℕ) → IsQuoted bytes text rest → ⊥) × (p ≡ piece.Fault 0))

-- the longest symbol that begins with c and continues with these bytes: ( ) , ; * + - = <= < >= >
unfoldable pub symbol_piece : ℕ → List ℕ → Piece
symbol_piece c next =
    if c == 40 then piece.Token (kind.Symbol symbol.Open) 1
    else if c == 41 then piece.Token (kind.Symbol symbol.Close) 1
    else if c == 44 then piece.Token (kind.Symbol symbol.Comma) 1
    else if c == 59 then piece.Token (kind.Symbol symbol.Semicolon) 1
    else if c == 42 then piece.Token (kind.Symbol symbol.Star) 1
    else if c == 43 then piece.Token (kind.Symbol symbol.Plus) 1
    else if c == 45 then piece.Token (kind.Symbol symbol.Minus) 1
    else if c == 61 then piece.Token (kind.Symbol symbol.Equal) 1
    else if c == 60 then (if begins 61 next then piece.Token (kind.Symbol symbol.AtMost) 2
    else piece.Token (kind.Symbol symbol.Below) 1)
    else if c == 62 then (if begins 61 next then piece.Token (kind.Symbol symbol.AtLeast) 2
    else piece.Token (kind.Symbol symbol.Above) 1)
    else piece.Fault 0

-- what bytes begin with, if their first is no quote: a blank, a comment up to the end of the line, or a token
unfoldable pub plain_piece : ℕ → List ℕ → Piece
plain_piece c next =
    if is_blank c then piece.Blank 1
    else if c == 45 && begins 45 next then piece.Blank (prefix_len (λ b. not (b == 10)) (c ∷ next))
    else if is_ascii_alphabetic c then name_piece (c ∷ next)
    else if is_ascii_digit c then number_piece (c ∷ next)
    else symbol_piece c next

-- the piece that bytes begin with
abbrev pub IsPiece : List ℕ → Piece → Type 0
IsPiece [] p = ⊥
IsPiece (c ∷ next) p = MatchBool (c == 39) (IsTextPiece next p) (p ≡ plain_piece c next)

-- the bytes are these pieces, one after another; nothing after a fault is read
abbrev pub ArePieces : List ℕ → List Piece → Type 0
ArePieces bytes [] = bytes ≡ []
ArePieces bytes (piece.Blank len ∷ ps) = IsPiece bytes (piece.Blank len) × ArePieces (drop len bytes) ps
ArePieces bytes (piece.Token k len ∷ ps) = IsPiece bytes (piece.Token k len) × ArePieces (drop len bytes) ps
ArePieces bytes (piece.Fault place ∷ ps) = IsPiece bytes (piece.Fault place) × (ps ≡ [])

-- the tokens with one more before them
abbrev pub with_token : Token → Result (List Token) ℕ → Result (List Token) ℕ
with_token t (Ok ts) = Ok (t ∷ ts)
with_token t (Err column) = Err column

-- the tokens among pieces that begin at `at` in a text, each with its place, or the column of the fault
abbrev pub tokens_at : ℕ → List Piece → Result (List Token) ℕ
tokens_at at [] = Ok []
tokens_at at (piece.Blank len ∷ ps) = tokens_at (at + len) ps
tokens_at at (piece.Token k len ∷ ps) =
    with_token (record { kind = k; start = at; end = at + len }) (tokens_at (at + len) ps)
tokens_at at (piece.Fault place ∷ ps) = Err (at + place + 1)

-- a text has these tokens, or its leftmost fault at this column. A text that is too long isn't read: its fault is after
-- the most bytes that are
abbrev pub IsLexed : List ℕ → Result (List Token) ℕ → Type 0
IsLexed text r =
    MatchBool (nat_lt MAX_TEXT (length text)) (r ≡ Err (MAX_TEXT + 1)) ((ps : List Piece) × ArePieces text ps
    × (r ≡ tokens_at 0 ps))

-- a token is what its bytes, from its start to its end, are by themselves
abbrev pub IsItsSlice : List ℕ → Token → Type 0
IsItsSlice text t =
    IsLexed (slice_range text t.start t.end) (Ok (record { kind = t.kind; start = 0; end = t.end - t.start } ∷ []))

-- the fault of a text: its column, unless memory was refused
abbrev pub IsLexFault : List ℕ → ParseFault → Type 0
IsLexFault text (fault.Syntax column) = IsLexed text (Err column)
IsLexFault text fault.Memory = Unit {0}
