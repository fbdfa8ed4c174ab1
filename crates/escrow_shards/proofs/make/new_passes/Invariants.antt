use Rattle.std.proofs.Common.{◌≡◌}
use Rattle.escrow_shards.specs.Pass.{new_passes}
use Rattle.escrow_shards.proofs.make.new_passes.Given as goal

abbrev pub invariant-loop-database : goal.invariant-loop-database
invariant-loop-database l = l.passes.items ≡ new_passes l.database l.sessions
