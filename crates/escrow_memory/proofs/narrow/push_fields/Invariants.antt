use Rattle.std.proofs.Common.{◌≡◌, ◌++◌, length}
use Rattle.sqlite_record.specs.Record.{decode, values_of}
use Rattle.escrow_memory.proofs.narrow.push_fields.Given as goal

-- the fields read so far and the remaining ones are the entry's fields
abbrev pub invariant-loop-value : goal.invariant-loop-value
invariant-loop-value l = l.row ++ values_of l.fields.types.now l.fields.body.now ≡ l.fn.row ++ decode l.entry

abbrev pub decreases-loop-value : goal.decreases-loop-value
decreases-loop-value l = length (values_of l.fields.types.now l.fields.body.now)
