use Rattle.std.proofs.Common.{◌≡◌, ◌++◌, map, take, drop}
use Rattle.escrow_txn.proofs.Empty.{emptied}
use Rattle.escrow_txn.proofs.journals.empty_all.Given as goal

abbrev pub invariant-loop-journal : goal.invariant-loop-journal
invariant-loop-journal l = take l.journal-index l.journal-items ++ map emptied (drop l.journal-index l.journal-items) ≡ map emptied l.fn.journals.items
