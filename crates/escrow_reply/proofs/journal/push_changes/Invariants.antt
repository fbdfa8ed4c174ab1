use Rattle.std.proofs.Common.{◌≡◌, ◌++◌, drop}
use Rattle.std.specs.List.{flat_map}
use Rattle.escrow_reply.specs.Text.{change_text}
use Rattle.escrow_reply.proofs.journal.push_changes.Given as goal

abbrev pub invariant-loop-change : goal.invariant-loop-change
invariant-loop-change l = l.line.items ++ flat_map change_text (drop l.change-index l.changes) ≡ l.initial.line.items ++ flat_map change_text l.changes
