use Rattle.std.proofs.Common.{◌≡◌, ◌++◌}
use Rattle.escrow_shards.specs.Pass.{new_passes_of}
use Rattle.escrow_shards.proofs.make.add_passes.Given as goal

abbrev pub invariant-loop-before : goal.invariant-loop-before
invariant-loop-before l = l.passes.items ≡ l.initial.passes.items ++ new_passes_of l.database l.before
