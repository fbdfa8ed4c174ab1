-- Believed: how the lines of a script are read.
use Rattle.std.specs.Prelude.{◌≡◌, ℕ, ◌+◌, ◌==◌, ◌&&◌, Bool, true, false, nat_lt, Option, Some, None, List, [], ◌∷◌, ◌++◌, length, take, drop, ⊤}
use Rattle.std.specs.Io.KnownBytes.{prepend_known, IsAtEnd}
use Rattle.std.specs.List.{position_or_len}
use Rattle.escrow_script.specs.Line.{lines_of}
use Rattle.escrow_script.specs.declared.limits.Limit.{Limit}
use Rattle.escrow_script.specs.declared.limits.Limit.TheVariants as limit
use Rattle.escrow_script.specs.declared.limits.TheConstants.{MAX_LINE, MAX_SCRIPT, MAX_STREAM}

-- the most bytes that a limit allows
abbrev pub most_bytes : Limit → ℕ
most_bytes limit.Script = MAX_SCRIPT
most_bytes limit.Stream = MAX_STREAM

-- a line feed
abbrev pub is_feed : ℕ → Bool
is_feed b = b == 10

-- whether a line is in hand: reads of the client are left, and a line feed is among the bytes that were read and aren't
-- taken
abbrev pub has_line : ℕ → List ℕ → Bool
has_line reads unread = nat_lt 0 reads && nat_lt (position_or_len is_feed unread) (length unread)

-- the bytes that a script has left: those that were read and aren't taken, and those that its client still sends, if
-- these are known
abbrev pub left : List ℕ → Option (List ℕ) → Option (List ℕ)
left unread remaining = prepend_known unread remaining

-- a script has nothing left: all that was read is taken, and its client is at its end
abbrev pub HasEnded : List ℕ → Option (List ℕ) → Type 0
HasEnded unread remaining = (unread ≡ []) × IsAtEnd remaining

-- what a client sent, if its bytes are known, was taken from what a script may still have
abbrev pub Spends : Option (List ℕ) → Option (List ℕ) → ℕ → ℕ → Type 0
Spends None rest old new = ⊤
Spends (Some bytes) None old new = ⊥
Spends (Some bytes) (Some rest) old new = length bytes + new ≡ length rest + old

-- The next line was taken: the bytes that were left are its bytes and the lines of the rest. At most one byte more than
-- a line may have was kept. Or there was none, and nothing is left.
abbrev pub TakesLine : Bool → Option (List ℕ) → Option (List ℕ) → List ℕ → Type 0
TakesLine found None rest kept = ⊤
TakesLine found (Some bytes) None kept = ⊥
TakesLine true (Some bytes) (Some rest) kept =
    (line : List ℕ) × (lines_of bytes ≡ line ∷ lines_of rest) × (kept ≡ take (MAX_LINE + 1) line)
TakesLine false (Some bytes) (Some rest) kept = (lines_of bytes ≡ []) × (rest ≡ [])

-- The bytes up to the first line feed moved from what is unread to a line, and the line feed was taken; or all of them,
-- if there is no line feed. Of the line, at most one byte more than it may have is kept.
pub record Moves (found : Bool) (unread rest line kept : List ℕ) : Type 0 where
  pub is_found : found ≡ nat_lt (position_or_len is_feed unread) (length unread)
  pub is_rest : rest ≡ drop (position_or_len is_feed unread + 1) unread
  pub is_kept : kept ≡ take (MAX_LINE + 1) (line ++ take (position_or_len is_feed unread) unread)
