-- Believed: the statements of the laws in src/laws.rt.
use Rattle.std.specs.Prelude.{◌≡◌, ℕ, ◌+◌, ◌*◌, ◌<◌, Some, List, slice_get}
use Rattle.sqlite.specs.Held.{Held, state}
use Rattle.sqlite.specs.State.{HasCleanDisk}
use Rattle.sqlite_trees.specs.declared.store.Store.{Ghosts}
use Rattle.escrow_shards.specs.declared.shared.TheConstants.{MAX_DATABASES}
use Rattle.escrow_shards.specs.Closed.{Closed, WasClean}
use Rattle.escrow_shards.specs.Part.{Part}
use Rattle.escrow_shards.specs.Pass.{AreAllPasses, new_pass, new_passes}

-- the limit of this crate, as a number
abbrev pub Limits : Type 0
Limits = MAX_DATABASES ≡ 16

-- the passes that are made are one for each session of each database, and no others
abbrev pub NewPassesAreAll : Type 0
NewPassesAreAll = (databases sessions : ℕ) → AreAllPasses databases sessions (new_passes databases sessions)

-- the place of a session's pass among those that are made; the session is counted from 0 here
abbrev pub PassesHavePlaces : Type 0
PassesHavePlaces =
    (databases sessions database before : ℕ) → database < databases → before < sessions
    → slice_get (new_passes databases sessions) (database * sessions + before) ≡ Some (new_pass database (before + 1))

-- whatever was done over a connection, its disk returned what was written, as memory always does
abbrev pub IsAlwaysClean : {S : Type 0} → Ghosts S → Type 0
IsAlwaysClean {S} g = (connection : Held S) → HasCleanDisk (state g connection)

-- over such stores, the run that a close finds has no premise
abbrev pub CloseHasNoPremise : {S : Type 0} → Ghosts S → Type 0
CloseHasNoPremise {S} g = (d : ℕ) (parts : List (Part S)) (c : Closed S) → WasClean g d parts c
