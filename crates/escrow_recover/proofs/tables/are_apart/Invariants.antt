use Rattle.std.proofs.Common.{◌≡◌, drop}
use Rattle.escrow_recover.specs.Tabs.{are_apart}
use Rattle.escrow_recover.proofs.tables.are_apart.Given as goal

abbrev pub invariant-loop-i : goal.invariant-loop-i
invariant-loop-i l = are_apart (drop l.i l.tables) ≡ are_apart l.tables
