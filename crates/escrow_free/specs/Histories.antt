-- Believed: the histories that are handed back.
use Rattle.std.specs.Prelude.{◌≡◌, ℕ, ◌+◌, List, [], ◌∷◌, length, slice_get, Some}
use Rattle.sqlite_trees.specs.declared.store.Store.{Ghosts}
use Rattle.escrow_transcript.specs.declared.entry.Entry.{Entry}
use Rattle.escrow_core.specs.Database.{Database}
use Rattle.escrow_shards.specs.Closed.{Closed, IsWhole, all_entries}
use Rattle.escrow_shards.specs.Opened.{IsRead, database_at}
use Rattle.escrow_shards.specs.Part.{Part}

-- the histories of databases, from a place on: each is the entries of its parts, followed by those of its last
-- transcript
abbrev pub histories_from : {S : Type 0} → ℕ → List (Part S) → List (Closed S) → List (List Entry)
histories_from place parts [] = []
histories_from place parts (c ∷ closed) = all_entries place parts c ∷ histories_from (place + 1) parts closed

-- the histories of all databases, by place
abbrev pub histories : {S : Type 0} → List (Part S) → List (Closed S) → List (List Entry)
histories parts closed = histories_from 0 parts closed

-- The history of a database began as the database was handed in, and is whole. If the disk returned what was written,
-- the history is one legal run of the machine, from the state that was handed in to the state that is handed back.
pub record IsHistory {S : Type 0} (g : Ghosts S) (place : ℕ) (parts : List (Part S)) (database : Database S)
    (c : Closed S) : Type 0 where
  pub began : IsRead g database (database_at c.opening)
  pub whole : IsWhole g place parts c

-- there is a history for each database, by place: each began as its database was handed in, and is whole
pub record AreHistories {S : Type 0} (g : Ghosts S) (databases : List (Database S)) (parts : List (Part S))
    (closed : List (Closed S)) : Type 0 where
  pub count : length closed ≡ length databases
  pub each : (place : ℕ) (database : Database S) (c : Closed S) → slice_get databases place ≡ Some database
      → slice_get closed place ≡ Some c
      → IsHistory g place parts database c
