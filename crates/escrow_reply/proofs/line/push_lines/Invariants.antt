use Rattle.std.proofs.Common.{◌≡◌, ◌++◌, drop, map}
use Rattle.escrow_reply.specs.Text.{with_prefix}
use Rattle.escrow_reply.proofs.line.push_lines.Given as goal

abbrev pub invariant-loop-shown : goal.invariant-loop-shown
invariant-loop-shown g l = l.lines.items ++ with_prefix l.prefix (map g.T.Shown.text (drop l.shown-index l.all)) ≡ l.initial.lines.items ++ with_prefix l.prefix (map g.T.Shown.text l.all)
