use Rattle.std.proofs.Common.{List}
use Rattle.std.specs.Iterator.{Yields}
use Rattle.escrow_statement.specs.declared.statement.Request.{Request}
use Rattle.escrow_sessions.proofs.worker.skip.Given as goal

abbrev pub invariant-loop : goal.invariant-loop
invariant-loop g l =
    (goal.iterator-loop g).can_next l.iterator' × (goal.iterator-loop g).is_finite l.iterator'
    × ((skipped : List Request) × Yields g.Q.Source.gives l.initial.source skipped l.source)
