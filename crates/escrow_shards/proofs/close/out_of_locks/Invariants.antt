use Rattle.std.proofs.Common.{◌≡◌, ◌+◌, ◌≤◌, ◌++◌, length, map, vec_len}
use Rattle.std.specs.Vec.{vec_capacity}
use Rattle.std.specs.Vec.Iter.{into_iter_items, into_iter_len}
use Rattle.escrow_shards.specs.declared.shared.TheConstants.{MAX_DATABASES}
use Rattle.escrow_shards.specs.Closed.{opening_of}
use Rattle.escrow_shards.proofs.close.out_of_locks.Given as goal

abbrev pub invariant-loop-shard : goal.invariant-loop-shard
invariant-loop-shard g l = record {
  rest : l.yielded ++ into_iter_items l.shard-iterator ≡ into_iter_items l.initial.shard-iterator;
  long : into_iter_len l.shard-iterator ≡ length (into_iter_items l.shard-iterator);
  so_far : map opening_of l.closed.items ≡ l.yielded;
  count : vec_len l.closed + into_iter_len l.shard-iterator ≤ MAX_DATABASES;
  wide : MAX_DATABASES ≤ vec_capacity l.closed;
}
