use Rattle.std.specs.List.{AllByRecursion}
use Rattle.escrow_shards.specs.Shared.{HasPass}
use Rattle.escrow_threads_tests.proofs.tests.workers.seated.Given as goal

abbrev pub invariant-loop-pass : goal.invariant-loop-pass
invariant-loop-pass g l =
    (goal.iterator-loop-pass g).can_next l.pass-iterator × (goal.iterator-loop-pass g).is_finite l.pass-iterator
    × AllByRecursion (HasPass l.shared) l.seated.items
