use Rattle.escrow_txn.proofs.Empty.{empty_journals, nothing_opened}
use Rattle.escrow_txn.proofs.table.TxnTable.clear.Goals as goal

pub invariant_of-self : goal.invariant_of-self
invariant_of-self c = empty_journals c.clear.new.self c.clear.ensures

pub returns : goal.returns
returns c = nothing_opened c.clear.new.self c.clear.ensures
