-- Believed: the output of a script whose sessions run at the same time, in databases that the program opened.
use Rattle.std.specs.Prelude.{◌≡◌, ℕ, Option, Some, List, length, map, slice_get}
use Rattle.sqlite.specs.Held.{Held, state}
use Rattle.sqlite.specs.State.{HasCleanDisk}
use Rattle.sqlite_trees.specs.declared.store.Store.{Ghosts}
use Rattle.escrow_machine.specs.State.{State}
use Rattle.escrow_transcript.specs.declared.entry.Entry.{Entry}
use Rattle.escrow_transcript.specs.Legal.{AreNumbered, AreSteps}
use Rattle.escrow_core.specs.Database.{Database}
use Rattle.escrow_shards.specs.Closed.{Closed}
use Rattle.escrow_shards.specs.Part.{Part}
use Rattle.escrow_free.specs.FreeOutput.{ServesFree}
use Rattle.escrow_free.specs.Histories.{AreHistories}

-- stores of a kind whose disks always return what was written
abbrev pub HoldCleanDisks : {S : Type 0} → Ghosts S → Type 0
HoldCleanDisks {S} g = (store : Held S) → HasCleanDisk (state g store)

-- a history is a run of the machine from a state to some other state, and its entries are numbered from 1
abbrev pub RunsFrom : State → List Entry → Type 0
RunsFrom s entries = (end : State) × AreSteps s entries end × AreNumbered 0 entries

-- as many histories as states, each a run from the state at its place
pub record AreRuns (states : List State) (histories : List (List Entry)) : Type 0 where
  pub count : length histories ≡ length states
  pub each : (place : ℕ) (s : State) (entries : List Entry) → slice_get states place ≡ Some s
      → slice_get histories place ≡ Some entries → RunsFrom s entries

-- THE OUTPUT OF A SCRIPT whose sessions run at the same time. There are histories, each a run of the machine from the
-- state of its database, and the output is what the script's lines write according to them.
abbrev pub RunsFree : List ℕ → List State → Option (List ℕ) → Option (List ℕ) → Type 0
RunsFree script states old_bytes new_bytes =
    (histories : List (List Entry)) × AreRuns states histories × ServesFree script histories old_bytes new_bytes

-- a database as it came out of its lock
abbrev pub ended_of : {S : Type 0} → Closed S → Database S
ended_of c = record { store = c.history.store; state = c.history.state }

-- Databases were handed back, each at the place where it was handed in, as its history ends.
abbrev pub AreEnded : {S : Type 0} → Ghosts S → List (Database S) → List (Database S) → Type 0
AreEnded {S} g old new =
    (parts : List (Part S)) × (closed : List (Closed S)) × AreHistories g old parts closed × (new ≡ map ended_of closed)
