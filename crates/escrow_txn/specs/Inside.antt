-- Helps: what the fields of a table of transactions hold.
use Rattle.escrow_txn.specs.declared.table.TxnTable.TheInside.{Inside}
use Rattle.escrow_txn.specs.Joined.{opened}
use Rattle.escrow_journal.specs.Open.{Open}

-- what is open in the journals that the fields hold
abbrev pub open_of : Inside → Open
open_of t = opened t.journals t.next_id
