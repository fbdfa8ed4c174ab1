use Rattle.std.proofs.Common.{◌≡◌, ℕ, ◌<◌, Some}
use Rattle.std.specs.List.{slice_get}
use Rattle.escrow_shards.specs.Closed.{Closed}
use Rattle.escrow_shards.specs.Found.{IsSettled}
use Rattle.escrow_shards.proofs.close.findings.lacks_parts.Given as goal

abbrev pub invariant-loop-database : goal.invariant-loop-database
invariant-loop-database g l = (d : ℕ) (c : Closed _) → d < l.database → slice_get l.closed d ≡ Some c → IsSettled g.S.Store d l.parts c
