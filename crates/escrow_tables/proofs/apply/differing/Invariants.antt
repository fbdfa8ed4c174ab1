use Rattle.std.proofs.Common.{length}
use Rattle.escrow_tables.proofs.Changed.{Turns}
use Rattle.escrow_tables.proofs.apply.differing.Given as goal

abbrev pub invariant-loop-old : goal.invariant-loop-old
invariant-loop-old l = Turns l.news l.before l.after (length l.yielded)
