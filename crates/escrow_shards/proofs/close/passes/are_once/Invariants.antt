use Rattle.std.proofs.Common.{◌≡◌, ℕ, ◌<◌, ◌≤◌}
use Rattle.escrow_shards.specs.Pass.{passes_at}
use Rattle.escrow_shards.proofs.close.passes.are_once.Given as goal

abbrev pub invariant-loop-session : goal.invariant-loop-session
invariant-loop-session l = (k : ℕ) → 1 ≤ k → k < l.session → passes_at l.database k l.passes ≡ 1
