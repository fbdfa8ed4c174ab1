-- Believed: what contracts see of a database that came out of its lock, and when its history is whole.
use Rattle.std.specs.Prelude.{◌≡◌, ℕ, ◌+◌, List, [], ◌∷◌, ◌++◌, refl}
use Rattle.std.specs.List.{AllByRecursion}
use Rattle.std.specs.Coded.{Coded, code_by, coded×, coded_ℕ}
use Rattle.sqlite.specs.Held.{state}
use Rattle.sqlite.specs.State.{HasCleanDisk}
use Rattle.sqlite_trees.specs.declared.store.Store.{Ghosts}
use Rattle.escrow_transcript.specs.declared.base.Base.{Base}
use Rattle.escrow_transcript.specs.declared.entry.Entry.{Entry}
use Rattle.escrow_transcript.specs.Legal.{AreSteps, AreNumbered}
use Rattle.escrow_history.specs.Audited.{Audited, audited_code}
use Rattle.escrow_shards.specs.Opening.{Opening, opening_code}
use Rattle.escrow_shards.specs.Part.{Part, parts_of, entries_of}

-- what contracts see of a database out of its lock: its opening; the database with its last transcript; and how many
-- parts of its history were handed out
pub record Closed (S : Type 0) : Type 0 where
  pub opening : Opening S
  pub history : Audited S
  pub parts : ℕ

abbrev pub closed_code : {S : Type 0} → Coded S → Coded (Closed S)
closed_code {S} store =
    code_by (Opening S × (Audited S × ℕ)) (coded× (opening_code store) (coded× (audited_code store) coded_ℕ))
    (λ c. (c.opening, (c.history, c.parts))) (λ p. record { opening = p.0; history = p.1.0; parts = p.1.1 }) (λ _. refl)

-- where a database began
abbrev pub opening_of : {S : Type 0} → Closed S → Opening S
opening_of c = c.opening

-- Parts follow one another, after a part with this number that ends at this base: their numbers rise by one, and each
-- begins where the one before it ends. The last of all has number `count`, and ends at base `last`.
abbrev pub Follow : {S : Type 0} → ℕ → Base → List (Part S) → ℕ → Base → Type 0
Follow number base [] count last = (number ≡ count) × (base ≡ last)
Follow number base (p ∷ ps) count last =
    (p.number ≡ number + 1) × ((p.base ≡ base) × Follow (number + 1) p.end ps count last)

-- all parts of a database are there, in order: the first begins at its opening, and its last transcript begins where
-- the last part ends
abbrev pub HasAllParts : {S : Type 0} → ℕ → List (Part S) → Closed S → Type 0
HasAllParts d parts c = Follow 0 c.opening.base (parts_of d parts) c.parts c.history.base

-- all entries of a database: those of its parts, followed by those of its last transcript
abbrev pub all_entries : {S : Type 0} → ℕ → List (Part S) → Closed S → List Entry
all_entries d parts c = entries_of (parts_of d parts) ++ c.history.entries

-- The disk of a database returned what was written: at its opening, whenever a part of its history was handed out, and
-- now.
pub record WasClean {S : Type 0} (g : Ghosts S) (d : ℕ) (parts : List (Part S)) (c : Closed S) : Type 0 where
  pub at_opening : HasCleanDisk (state g c.opening.store)
  pub at_parts : AllByRecursion (λ (p : Part S). HasCleanDisk (state g p.store)) (parts_of d parts)
  pub at_close : HasCleanDisk (state g c.history.store)

-- All entries of a database are one run of the machine, numbered from 1, from the state at its opening to the state
-- now.
pub record IsOneRun {S : Type 0} (d : ℕ) (parts : List (Part S)) (c : Closed S) : Type 0 where
  pub run : AreSteps c.opening.state (all_entries d parts c) c.history.state
  pub numbered : AreNumbered 0 (all_entries d parts c)

-- The history of a database is whole: all its parts are there, and if its disk returned what was written, all its
-- entries are one run.
pub record IsWhole {S : Type 0} (g : Ghosts S) (d : ℕ) (parts : List (Part S)) (c : Closed S) : Type 0 where
  pub whole : HasAllParts d parts c
  pub run : WasClean g d parts c → IsOneRun d parts c
