use Rattle.std.proofs.Common.{◌≡◌, ℕ, ◌<◌, Some}
use Rattle.std.specs.List.{AllByRecursion, slice_get}
use Rattle.escrow_shards.specs.Closed.{Closed, all_entries}
use Rattle.escrow_shards.specs.Whole.{IsOfSessions}
use Rattle.escrow_shards.proofs.close.beyond.lacks_pass.Given as goal

abbrev pub invariant-loop-database : goal.invariant-loop-database
invariant-loop-database g l =
    (d : ℕ) (c : Closed _) → d < l.database → slice_get l.closed d ≡ Some c → AllByRecursion (IsOfSessions l.sessions) (all_entries d l.parts c)
