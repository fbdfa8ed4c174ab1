-- Believed: what workers did that were fed through channels.
use Rattle.std.specs.Prelude.{◌≡◌, ℕ, ◌==◌, if◌then◌else◌, List, [], ◌∷◌, length, slice_get, Some}
use Rattle.escrow_statement.specs.declared.statement.Request.{Request}
use Rattle.escrow_shards.specs.Pass.{Pass}
use Rattle.escrow_sessions.specs.Serving.{IsDone}
use Rattle.escrow_sessions.specs.declared.feed.Done.{Done}

-- the requests of the items that name a place, in order
abbrev pub of : ℕ → List (ℕ × Request) → List Request
of place [] = []
of place (item ∷ items) = if item.0 == place then item.1 ∷ of place items else of place items

-- FED WORKERS. Each did what a worker does with the requests of the items that name its place.
pub record AreFed (passes : List Pass) (items : List (ℕ × Request)) (done : List Done) : Type 0 where
  pub count : length done ≡ length passes
  pub each : (place : ℕ) (pass : Pass) (d : Done) → slice_get passes place ≡ Some pass → slice_get done place ≡ Some d
      → IsDone pass (of place items) d
