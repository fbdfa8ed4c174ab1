use Rattle.std.proofs.Common.{◌≡◌, ◌++◌}
use Rattle.escrow_machine.specs.Journal.{named_changes}
use Rattle.escrow_reserved.proofs.shown_journal.named_changes.Given as goal

abbrev pub invariant-loop-column : goal.invariant-loop-column
invariant-loop-column l = l.named ++ named_changes l.column-iterator.a.rest.now l.column-iterator.b.rest.now ≡ named_changes l.columns l.changes
