use Rattle.std.specs.List.{AllByRecursion}
use Rattle.escrow_sessions.specs.Serving.{HasItsPass}
use Rattle.escrow_threads_tests.proofs.tests.workers.feeds_of.Given as goal

abbrev pub invariant-loop-pass : goal.invariant-loop-pass
invariant-loop-pass g l =
    (goal.iterator-loop-pass g).can_next l.pass-iterator × (goal.iterator-loop-pass g).is_finite l.pass-iterator
    × AllByRecursion (HasItsPass l.shared) l.feeds.items
