-- Helps: how the lexer goes through a text, from left to right. The contracts of public calls use Lex instead.
use Rattle.std.specs.Prelude.{ℕ, ℤ, zero, suc, ◌+◌, ◌-◌, ◌==◌, Bool, true, false, ◌<◌, ◌≤◌, if◌then◌else◌, Option, Some, None, option_map, Result, Ok, Err, List, [], ◌∷◌, take, position}
use Rattle.escrow_num.specs.Decimal.{millionths_of}
use Rattle.escrow_sql.specs.Lex.{behind_digits, front_digits, is_forbidden, plain_piece, with_token}
use Rattle.escrow_sql.specs.declared.lexer.piece.Piece.{Piece}
use Rattle.escrow_sql.specs.declared.lexer.piece.Piece.TheVariants as piece
use Rattle.escrow_sql.specs.declared.token.Kind.TheVariants as kind
use Rattle.escrow_sql.specs.declared.token.Token.{Token}

-- how many bytes a text takes after its opening quote, with its closing one. A quote closes it unless another follows.
-- The flag says that the byte before these is a quote that may close it
abbrev pub text_rest : Bool → List ℕ → Option ℕ
text_rest true [] = Some 0
text_rest false [] = None
text_rest true (c ∷ cs) = if c == 39 then option_map (λ n. n + 1) (text_rest false cs) else Some 0
text_rest false (c ∷ cs) = option_map (λ n. n + 1) (text_rest (c == 39) cs)

-- the bytes with each doubled quote once: a quote right after a quote that was kept is dropped
abbrev pub undoubled : Bool → List ℕ → List ℕ
undoubled behind [] = []
undoubled true (c ∷ cs) = if c == 39 then undoubled false cs else (c ∷ undoubled false cs)
undoubled false (c ∷ cs) = c ∷ undoubled (c == 39) cs

-- a text of `len` bytes after its opening quote, or the fault at the first forbidden character
abbrev pub closed_text : List ℕ → ℕ → Option ℕ → Piece
closed_text body len (Some k) = piece.Fault (1 + k)
closed_text body len None = piece.Token (kind.Text (undoubled false (take (len - 1) body))) (1 + len)

-- the text after an opening quote; if it doesn't end, the fault is at the quote
abbrev pub text_from : List ℕ → Option ℕ → Piece
text_from body None = piece.Fault 0
text_from body (Some len) = closed_text body len (position is_forbidden (take (len - 1) body))

-- the text at the front; these are the bytes after its opening quote
unfoldable pub text_piece : List ℕ → Piece
text_piece body = text_from body (text_rest false body)

-- the millionths of the number with a point at the front, if it is a decimal
abbrev pub point_millionths : List ℕ → Option ℤ
point_millionths bytes = millionths_of (front_digits bytes) (behind_digits bytes)

-- what the bytes begin with
abbrev pub piece_of : ℕ → List ℕ → Piece
piece_of c next = if c == 39 then text_piece next else plain_piece c next

-- a piece takes at least one byte and ends within `room` bytes; a fault is among them
abbrev pub IsWithin : ℕ → Piece → Type 0
IsWithin room (piece.Blank len) = (1 ≤ len) × (len ≤ room)
IsWithin room (piece.Token k len) = (1 ≤ len) × (len ≤ room)
IsWithin room (piece.Fault place) = place < room

-- the tokens of the bytes that begin at `at` in a text, or the column of the leftmost fault. The first `skip` bytes
-- belong to what comes before
abbrev pub tokens_from : ℕ → ℕ → List ℕ → Result (List Token) ℕ
tokens_from skip at [] = Ok []
tokens_from (suc skip) at (c ∷ next) = tokens_from skip (at + 1) next
tokens_from zero at (c ∷ next) = elim (piece_of c next) [
  | piece.Blank len ↦ tokens_from (len - 1) (at + 1) next
  | piece.Token k len ↦ with_token (record { kind = k; start = at; end = at + len })
      (tokens_from (len - 1) (at + 1) next)
  | piece.Fault k ↦ Err (at + k + 1)
]
