use Rattle.std.proofs.Common.{◌≡◌, ◌++◌, drop, map}
use Rattle.escrow_reply.specs.Text.{with_prefix, row_text}
use Rattle.escrow_reply.proofs.lines.push_row_lines.Given as goal

abbrev pub invariant-loop-row : goal.invariant-loop-row
invariant-loop-row l = l.lines.items ++ with_prefix l.prefix (map (row_text l.headings) (drop l.row-index l.rows)) ≡ l.initial.lines.items ++ with_prefix l.prefix (map (row_text l.headings) l.rows)
