-- Believed: the receipts of entries.
use Rattle.std.specs.Prelude.{ℕ, ◌==◌, List, map, filter}
use Rattle.escrow_transcript.specs.declared.entry.Entry.{Entry}
use Rattle.escrow_shards.specs.declared.pass.Receipt.{Receipt}

-- the receipt of an entry
abbrev pub receipt_of : Entry → Receipt
receipt_of e = record { number = e.number; statement = e.statement; reply = e.reply }

-- the receipts of a session: one for each of its entries, in their order
abbrev pub receipts_of : ℕ → List Entry → List Receipt
receipts_of session entries = map receipt_of (filter (λ e. e.session == session) entries)
