use Rattle.std.proofs.Common.{sym, ◌∙◌}
use Rattle.escrow_txn.proofs.AnyOpen.{open_by_journals}
use Rattle.escrow_txn.proofs.table.TxnTable.has_open.Goals as goal

pub returns : goal.returns
returns c = rw (← c.self.view_is) (c.hold_any.ensures ∙ sym (open_by_journals c.self.inside.journals c.self.inside.next_id))
