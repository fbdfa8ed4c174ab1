-- Believed: the COMMITs of a database that wait while another one is served, and the call that leads.
use Rattle.std.specs.Prelude.{◌≡◌, ℕ, ◌+◌, ◌-◌, ◌≤◌, Bool, true, false, Result, List, [], ◌∷◌, get_or, slice_set}
use Rattle.sqlite_trees.specs.declared.store.Store.{Ghosts}
use Rattle.escrow_num.specs.declared.failure.Failure.{Failure}
use Rattle.escrow_history.specs.declared.committed.Committed.{Committed}
use Rattle.escrow_history.specs.Audited.{Audited}
use Rattle.escrow_history.specs.Commits.{Commits}
use Rattle.escrow_shards.specs.declared.commit_queue.CommitState.{CommitState}
use Rattle.escrow_shards.specs.declared.commit_queue.CommitState.TheVariants as place

-- what contracts see of a queue: the places of its sessions, and whether one of them leads, whose call serves its own
-- COMMIT with those that wait
pub record Queue : Type 0 where
  pub places : List CommitState
  pub is_led : Bool

-- what is in the place of a session
abbrev pub at : Queue → ℕ → CommitState
at queue session = get_or queue.places (session - 1) place.Free

-- no COMMIT waits
abbrev pub NoneWaits : Queue → Type 0
NoneWaits queue = (before : ℕ) → ¬ (get_or queue.places before place.Free ≡ place.Asked)

-- the lead ends, since no COMMIT waits: no session leads from now on
abbrev pub EndsLead : Queue → Queue → Type 0
EndsLead old new = NoneWaits old × (new ≡ record { places = old.places; is_led = false })

-- the lead is handed on: the next session that leads is one whose COMMIT waited, and its place says so
abbrev pub HandsOnLead : Queue → Queue → Type 0
HandsOnLead old new =
    (next : ℕ) × (1 ≤ next) × (at old next ≡ place.Asked)
    × (new ≡ record { places = slice_set old.places (next - 1) place.Leads; is_led = true })

-- the sessions whose COMMITs wait, in order; `before` places come before these
abbrev pub asking : ℕ → List CommitState → List ℕ
asking before [] = []
asking before (place.Free ∷ places) = asking (before + 1) places
asking before (place.Asked ∷ places) = (before + 1) ∷ asking (before + 1) places
asking before (place.Leads ∷ places) = asking (before + 1) places
asking before (place.Answered outcome ∷ places) = asking (before + 1) places

-- The COMMIT of the session that leads was served together with just those that wait in the queue. Each has an outcome;
-- `own` is that of the session that leads.
pub record AreTogether {S : Type 0} (g : Ghosts S) (old : Audited S) (leading : ℕ) (queue : Queue)
    (own : Result Committed Failure) (new : Audited S) : Type 0 where
  pub others : List (Result Committed Failure)
  pub commits : Commits g old (leading ∷ asking 0 queue.places) (own ∷ others) new
