-- Helps: counts of the passes of one database.
use Rattle.std.specs.Prelude.{◌≡◌, ℕ, ◌≤◌, List}
use Rattle.escrow_shards.specs.Pass.{Pass, passes_at}

-- each session of a database has one pass
abbrev pub AreOnce : ℕ → ℕ → List Pass → Type 0
AreOnce d sessions passes = (k : ℕ) → 1 ≤ k → k ≤ sessions → passes_at d k passes ≡ 1
