-- Believed: what a close finds, and when a cause is true.
use Rattle.std.specs.Prelude.{◌≡◌, ◌⊎◌, ℕ, ◌<◌, ◌≤◌, List, [], length, map, slice_get, Some}
use Rattle.std.specs.List.{AllByRecursion}
use Rattle.sqlite_trees.specs.declared.store.Store.{Ghosts}
use Rattle.escrow_transcript.specs.declared.entry.Entry.{Entry}
use Rattle.escrow_shards.specs.declared.close.Cause.{Cause}
use Rattle.escrow_shards.specs.declared.close.Cause.TheVariants as cause
use Rattle.escrow_shards.specs.Closed.{Closed, HasAllParts, IsWhole, all_entries, opening_of}
use Rattle.escrow_shards.specs.Shared.{Shared}
use Rattle.escrow_shards.specs.Part.{Part}
use Rattle.escrow_shards.specs.Receipts.{receipts_of}
use Rattle.escrow_shards.specs.Pass.{Pass, AreAllPasses}

-- the receipts of a pass are exactly the entries of its session, in their order, each once
abbrev pub HasItsReceipts : {S : Type 0} → List (Part S) → List (Closed S) → Pass → Type 0
HasItsReceipts {S} parts closed pass =
    (c : Closed S) → slice_get closed pass.database ≡ Some c
    → pass.receipts ≡ receipts_of pass.session (all_entries pass.database parts c)

-- an entry is of one of the first `sessions` sessions
abbrev pub IsOfSessions : ℕ → Entry → Type 0
IsOfSessions sessions e = (1 ≤ e.session) × (e.session ≤ sessions)

-- each entry of each database is of one of these sessions
abbrev pub AreOfSessions : {S : Type 0} → ℕ → List (Part S) → List (Closed S) → Type 0
AreOfSessions {S} sessions parts closed =
    (d : ℕ) (c : Closed S) → slice_get closed d ≡ Some c
    → AllByRecursion (IsOfSessions sessions) (all_entries d parts c)

-- WHAT A CLOSE FINDS. The databases are those of the openings. Each pass was handed in once. The history of each
-- database is whole. Each session's receipts are exactly its entries, and each entry is of a session that has a pass.
pub record AreWhole {S : Type 0} (g : Ghosts S) (sharing : Shared S) (passes : List Pass) (parts : List (Part S))
    (closed : List (Closed S)) : Type 0 where
  pub openings : map opening_of closed ≡ sharing.openings
  pub all_seats : AreAllPasses (length sharing.openings) sharing.sessions passes
  pub each : (d : ℕ) (c : Closed S) → slice_get closed d ≡ Some c → IsWhole g d parts c
  pub receipts : AllByRecursion (HasItsReceipts parts closed) passes
  pub asked : AreOfSessions sharing.sessions parts closed

-- the parts of each of the first `n` databases are all there, in order
abbrev pub HaveParts : {S : Type 0} → ℕ → List (Part S) → List (Closed S) → Type 0
HaveParts {S} n parts closed = (d : ℕ) (c : Closed S) → d < n → slice_get closed d ≡ Some c → HasAllParts d parts c

-- a database is the first whose parts aren't all there, in order
abbrev pub LacksParts : {S : Type 0} → ℕ → List (Part S) → List (Closed S) → Type 0
LacksParts {S} d parts closed =
    HaveParts d parts closed × ((c : Closed S) × ((slice_get closed d ≡ Some c) × (HasAllParts d parts c → ⊥)))

-- the receipts of a pass of a session of a database aren't exactly its entries
abbrev pub LacksReceipts : {S : Type 0} → ℕ → ℕ → List Pass → List (Part S) → List (Closed S) → Type 0
LacksReceipts d k passes parts closed =
    (i : ℕ) × ((pass : Pass) × ((slice_get passes i ≡ Some pass)
    × ((pass.database ≡ d) × ((pass.session ≡ k) × (HasItsReceipts parts closed pass → ⊥)))))

-- a session of a database has entries, but no pass: fewer sessions have passes
abbrev pub LacksPass : {S : Type 0} → ℕ → ℕ → ℕ → List (Part S) → List (Closed S) → Type 0
LacksPass {S} sessions d k parts closed =
    (sessions < k) × ((c : Closed S)
    × ((slice_get closed d ≡ Some c) × (receipts_of k (all_entries d parts c) ≡ [] → ⊥)))

-- THE CAUSE OF A MISMATCH is true of what was handed in, and no cause that is looked for earlier is. The order is:
-- passes, then parts, then the receipts of passes, then entries of sessions without a pass, whose receipts aren't
-- there. Memory is no cause: all room was taken before.
abbrev pub IsTrueOf : {S : Type 0} → ℕ → List Pass → List (Part S) → List (Closed S) → Cause → Type 0
IsTrueOf sessions passes parts closed cause.Passes = AreAllPasses (length closed) sessions passes → ⊥
IsTrueOf sessions passes parts closed (cause.Parts d) =
    AreAllPasses (length closed) sessions passes × LacksParts d parts closed
IsTrueOf sessions passes parts closed (cause.Receipts d k) =
    AreAllPasses (length closed) sessions passes
    × (HaveParts (length closed) parts closed
    × (LacksReceipts d k passes parts closed
    ⊎ (AllByRecursion (HasItsReceipts parts closed) passes × LacksPass sessions d k parts closed)))
IsTrueOf sessions passes parts closed cause.Memory = ⊥
