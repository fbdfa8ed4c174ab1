use Rattle.escrow_txn.specs.Sessions.{AreEmpty}
use Rattle.escrow_txn.proofs.journals.empty_journals.Given as goal

abbrev pub invariant-loop-below : goal.invariant-loop-below
invariant-loop-below l = AreEmpty l.below l.journals.items
