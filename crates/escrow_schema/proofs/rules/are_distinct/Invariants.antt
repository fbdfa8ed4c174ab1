use Rattle.std.proofs.Common.{◌≡◌, drop}
use Rattle.escrow_schema.specs.Definition.{are_distinct}
use Rattle.escrow_schema.proofs.rules.are_distinct.Given as goal

abbrev pub invariant-loop-i : goal.invariant-loop-i
invariant-loop-i l = are_distinct (drop l.i l.names) ≡ are_distinct l.names
