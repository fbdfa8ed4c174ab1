use Rattle.escrow_txn.proofs.Empty.{empty_journals, nothing_opened}
use Rattle.escrow_txn.proofs.table.TxnTable.new.Goals as goal

pub invariant_of-result : goal.invariant_of-result
invariant_of-result c = empty_journals c.in_ok-new.field-0 c.in_ok-new.ensures

pub returns : goal.returns
returns c = nothing_opened c.in_ok-new.field-0 c.in_ok-new.ensures
