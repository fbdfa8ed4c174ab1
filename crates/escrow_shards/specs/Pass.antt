-- Believed: what contracts see of a pass, and what it means that each pass was handed in once.
use Rattle.std.specs.Prelude.{◌≡◌, ℕ, zero, suc, ◌+◌, ◌<◌, ◌≤◌, Bool, ◌&&◌, ◌==◌, List, [], ◌∷◌, ◌++◌, count_by}
use Rattle.std.specs.List.{AllByRecursion}
use Rattle.escrow_shards.specs.declared.pass.Receipt.{Receipt}

-- what contracts see of a pass: its database, counted from 0, its session, and its receipts, in order
pub record Pass : Type 0 where
  pub database : ℕ
  pub session : ℕ
  pub receipts : List Receipt

-- whether a pass is that of a session of a database
abbrev pub is_at : ℕ → ℕ → Pass → Bool
is_at database session pass = (pass.database == database) && (pass.session == session)

-- how many passes are that of a session of a database
abbrev pub passes_at : ℕ → ℕ → List Pass → ℕ
passes_at database session passes = count_by (is_at database session) passes

-- a pass is for one of the first `databases` databases, and for one of the first `sessions` sessions
pub record IsPassOf (databases sessions : ℕ) (pass : Pass) : Type 0 where
  pub database : pass.database < databases
  pub session : (1 ≤ pass.session) × (pass.session ≤ sessions)

-- each session of each database has one pass, and there are no others
pub record AreAllPasses (databases sessions : ℕ) (passes : List Pass) : Type 0 where
  pub each : (d k : ℕ) → d < databases → 1 ≤ k → k ≤ sessions → passes_at d k passes ≡ 1
  pub none_else : AllByRecursion (IsPassOf databases sessions) passes

-- a pass without receipts
abbrev pub new_pass : ℕ → ℕ → Pass
new_pass d k = record { database = d; session = k; receipts = [] }

-- new passes of a database for this many sessions, in order
abbrev pub new_passes_of : ℕ → ℕ → List Pass
new_passes_of d zero = []
new_passes_of d (suc k) = new_passes_of d k ++ new_pass d (k + 1) ∷ []

-- new passes of this many databases, by database, then by session
abbrev pub new_passes : ℕ → ℕ → List Pass
new_passes zero sessions = []
new_passes (suc d) sessions = new_passes d sessions ++ new_passes_of d sessions
