-- Helps: what a close finds on its way.
use Rattle.std.specs.Prelude.{◌≡◌, ℕ, ◌<◌, List, length, slice_get, Some}
use Rattle.std.specs.List.{AllByRecursion}
use Rattle.sqlite_trees.specs.declared.store.Store.{Ghosts}
use Rattle.escrow_history.specs.Audited.{IsKept}
use Rattle.escrow_shards.specs.declared.close.Cause.{Cause}
use Rattle.escrow_shards.specs.declared.close.Cause.TheVariants as cause
use Rattle.escrow_shards.specs.Opening.{IsOpening}
use Rattle.escrow_shards.specs.Closed.{Closed, HasAllParts, IsWhole}
use Rattle.escrow_shards.specs.Part.{Part, IsSound, parts_of}
use Rattle.escrow_shards.specs.Pass.{Pass, AreAllPasses}
use Rattle.escrow_shards.specs.Whole.{AreOfSessions, HasItsReceipts, LacksPass}

-- a pass's database is one of the first `databases` databases
abbrev pub IsAmong : ℕ → Pass → Type 0
IsAmong databases pass = pass.database < databases

-- all parts of a database are there, and what its types keep holds
pub record IsSettled {S : Type 0} (g : Ghosts S) (d : ℕ) (parts : List (Part S)) (c : Closed S) : Type 0 where
  pub whole : HasAllParts d parts c
  pub sound : AllByRecursion (IsSound g) (parts_of d parts)
  pub begun : IsOpening g c.opening
  pub kept : IsKept g c.history

-- each database is settled like this
abbrev pub AreSettled : {S : Type 0} → Ghosts S → List (Part S) → List (Closed S) → Type 0
AreSettled {S} g parts closed = (d : ℕ) (c : Closed S) → slice_get closed d ≡ Some c → IsSettled g d parts c

-- a cause says that a session of a database has entries, and no pass
abbrev pub IsOfNoPass : {S : Type 0} → ℕ → List (Part S) → List (Closed S) → Cause → Type 0
IsOfNoPass sessions parts closed (cause.Receipts d k) = LacksPass sessions d k parts closed
IsOfNoPass sessions parts closed cause.Passes = ⊥
IsOfNoPass sessions parts closed (cause.Parts d) = ⊥
IsOfNoPass sessions parts closed cause.Memory = ⊥

-- everything that a close finds, except which databases they are
pub record AreFound {S : Type 0} (g : Ghosts S) (sessions : ℕ) (passes : List Pass) (parts : List (Part S))
    (closed : List (Closed S)) : Type 0 where
  pub all_seats : AreAllPasses (length closed) sessions passes
  pub each : (d : ℕ) (c : Closed S) → slice_get closed d ≡ Some c → IsWhole g d parts c
  pub receipts : AllByRecursion (HasItsReceipts parts closed) passes
  pub asked : AreOfSessions sessions parts closed
