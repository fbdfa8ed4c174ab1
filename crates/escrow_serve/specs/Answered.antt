-- Believed: what a client has been answered.
use Rattle.std.specs.Prelude.{◌≡◌, ◌⊎◌, ⊤, ℕ, Option, Some, None, List, [], ◌∷◌, ◌++◌}
use Rattle.escrow_script.specs.Line.{HasNoFeed, lines_of}
use Rattle.escrow_serve.specs.Asked.{Given, GivesLines}

-- bytes are complete lines: there are none, or the last of them is a line feed
abbrev pub AreComplete : List ℕ → Type 0
AreComplete bytes = (bytes ≡ []) ⊎ ((front : List ℕ) × (bytes ≡ front ++ 10 ∷ []))

-- Of the bytes that came from a client, each complete line was answered. Behind the complete lines is at most a part of
-- a line, without a line feed. What was sent is what the complete lines write: a whole reply to each that asks for one,
-- in their order, whichever reply it is, and nothing else.
pub record IsAnswered (databases sessions : ℕ) (received sent : List ℕ) : Type 0 where
  pub complete : List ℕ
  pub part : List ℕ
  pub parts : received ≡ complete ++ part
  pub are_complete : AreComplete complete
  pub no_feed : HasNoFeed part
  pub given : List Given
  pub replies : GivesLines databases sessions (lines_of complete) given sent

-- that, of a client of which both are known
abbrev pub AllAnswered : ℕ → ℕ → Option (List ℕ) → Option (List ℕ) → Type 0
AllAnswered databases sessions (Some received) (Some sent) = IsAnswered databases sessions received sent
AllAnswered databases sessions _ _ = ⊤

-- nothing came from a client yet, and nothing was sent to it, if it is known what came
abbrev pub IsFresh : Option (List ℕ) → Option (List ℕ) → Type 0
IsFresh (Some received) sent = (received ≡ []) × (sent ≡ Some [])
IsFresh None sent = ⊤
