use Rattle.std.proofs.Common.{◌≡◌, ◌+◌, ◌≤◌, ◌++◌, map, reverse, vec_len}
use Rattle.std.specs.Vec.{vec_capacity}
use Rattle.escrow_shards.specs.Opened.{database_at}
use Rattle.escrow_shards.proofs.make.into_shards.Given as goal

abbrev pub invariant-loop-start : goal.invariant-loop-start
invariant-loop-start g l = record {
  seen : map database_at l.starts.items ≡ l.databases.items;
  order : l.starts.items ++ reverse l.shards.items ≡ l.initial.starts.items;
  room : vec_len l.databases + vec_len l.shards ≤ vec_capacity l.shards;
}

abbrev pub decreases-loop-start : goal.decreases-loop-start
decreases-loop-start g l = vec_len l.starts
