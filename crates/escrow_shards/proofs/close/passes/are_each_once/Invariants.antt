use Rattle.std.proofs.Common.{ℕ, ◌<◌}
use Rattle.escrow_shards.specs.Counted.{AreOnce}
use Rattle.escrow_shards.proofs.close.passes.are_each_once.Given as goal

abbrev pub invariant-loop-database : goal.invariant-loop-database
invariant-loop-database l = (d : ℕ) → d < l.database → AreOnce d l.sessions l.passes
