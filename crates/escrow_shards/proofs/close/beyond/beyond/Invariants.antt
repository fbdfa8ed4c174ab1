use Rattle.std.proofs.Common.{◌↔◌, drop}
use Rattle.std.specs.List.{AllByRecursion}
use Rattle.escrow_shards.specs.Whole.{IsOfSessions}
use Rattle.escrow_shards.proofs.close.beyond.beyond.Given as goal

abbrev pub invariant-loop-entry : goal.invariant-loop-entry
invariant-loop-entry l = AllByRecursion (IsOfSessions l.sessions) (drop l.entry-index l.entries) ↔ AllByRecursion (IsOfSessions l.sessions) l.entries
