-- Helps: what the fields of the journals hold.
use Rattle.std.specs.Prelude.{List}
use Rattle.escrow_txn.specs.declared.journals.Journals.TheInside.{Inside}
use Rattle.escrow_txn.specs.Sessions.{all_of}
use Rattle.escrow_journal.specs.Journal.{Journal}

-- the journals that the fields hold
abbrev pub journals_of : Inside → List Journal
journals_of j = all_of j.first.items j.others
