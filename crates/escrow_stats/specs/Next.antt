-- Helps: an entry to use if none is picked.
use Rattle.escrow_statement.specs.declared.statement.Statement.TheVariants as statement
use Rattle.escrow_machine.specs.declared.reply.Reply.TheVariants as reply
use Rattle.escrow_transcript.specs.declared.entry.Entry.{Entry}

abbrev pub no_entry : Entry
no_entry = record { number = 0; session = 0; statement = statement.Commit; reply = reply.Restarted }
