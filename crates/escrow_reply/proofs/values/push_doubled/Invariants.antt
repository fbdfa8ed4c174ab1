use Rattle.std.proofs.Common.{◌≡◌, ◌++◌, drop}
use Rattle.escrow_sql.specs.Lex.{doubled}
use Rattle.escrow_reply.proofs.values.push_doubled.Given as goal

abbrev pub invariant-loop-byte : goal.invariant-loop-byte
invariant-loop-byte l = l.line.items ++ doubled (drop l.byte-index l.text) ≡ l.initial.line.items ++ doubled l.text
