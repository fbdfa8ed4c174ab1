-- Believed: what came from a client.
use Rattle.std.specs.Prelude.{◌≡◌, ℕ, ◌+◌, Option, List, ◌∷◌, ◌++◌, take}
use Rattle.std.specs.Io.KnownBytes.{append_known}
use Rattle.escrow_script.specs.Line.{HasNoFeed}
use Rattle.escrow_script.specs.declared.limits.TheConstants.{MAX_LINE}

-- bytes came behind those that were received before, if these are known
abbrev pub Receives : Option (List ℕ) → Option (List ℕ) → List ℕ → Type 0
Receives old new bytes = new ≡ append_known old bytes

-- bytes without a line feed came
abbrev pub ReceivesPart : Option (List ℕ) → Option (List ℕ) → Type 0
ReceivesPart old new = (part : List ℕ) × HasNoFeed part × Receives old new part

-- The next line was taken: bytes came behind those that were unread, and together they are the line, its line feed, and
-- what is unread now. At most one byte more than a line may have was kept.
pub record ReceivesLine (old new : Option (List ℕ)) (unread rest kept : List ℕ) : Type 0 where
  pub bytes : List ℕ
  pub line : List ℕ
  pub came : Receives old new bytes
  pub no_feed : HasNoFeed line
  pub whole : unread ++ bytes ≡ line ++ 10 ∷ rest
  pub is_kept : kept ≡ take (MAX_LINE + 1) line
