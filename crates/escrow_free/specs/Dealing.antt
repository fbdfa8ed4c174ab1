-- Helps: items that are dealt out to feeds.
use Rattle.std.specs.Prelude.{◌≡◌, ℕ, List, [], ◌∷◌, ◌++◌, length, slice_get, Some}
use Rattle.escrow_statement.specs.declared.statement.Request.{Request}
use Rattle.escrow_shards.specs.Pass.{Pass}
use Rattle.escrow_sessions.specs.Fed.{of}
use Rattle.escrow_sessions.specs.declared.feed.Feed.{Feed}

-- a feed of a pass, without requests
abbrev pub IsNewFeed : Pass → Feed → Type 0
IsNewFeed seat feed = (feed.pass ≡ seat) × (feed.requests.items ≡ [])

-- a feed has one more request
abbrev pub IsAdded : Feed → Request → Feed → Type 0
IsAdded old r new = (new.pass ≡ old.pass) × (new.requests.items ≡ old.requests.items ++ r ∷ [])

-- each pass has a feed, with the requests of the items that name its place, in order
pub record AreDealt (passes : List Pass) (items : List (ℕ × Request)) (feeds : List Feed) : Type 0 where
  pub count : length feeds ≡ length passes
  pub each : (place : ℕ) (seat : Pass) (feed : Feed) → slice_get passes place ≡ Some seat
      → slice_get feeds place ≡ Some feed
      → (feed.pass ≡ seat) × (feed.requests.items ≡ of place items)
