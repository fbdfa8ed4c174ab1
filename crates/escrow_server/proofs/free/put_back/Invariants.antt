use Rattle.std.proofs.Common.{◌≡◌, ◌+◌, ◌≤◌, ◌++◌, length, map, vec_len}
use Rattle.std.specs.Vec.{vec_capacity}
use Rattle.std.specs.Vec.Iter.{into_iter_items, into_iter_len}
use Rattle.escrow_script.specs.declared.limits.TheConstants.{MAX_DATABASES}
use Rattle.escrow_server.specs.Free.{ended_of}
use Rattle.escrow_server.proofs.free.put_back.Given as goal

-- the first databases were put back, and there is room for the others
abbrev pub invariant-loop-ended : goal.invariant-loop-ended
invariant-loop-ended g l = record {
  rest : l.yielded ++ into_iter_items l.ended-iterator ≡ into_iter_items l.initial.ended-iterator;
  long : into_iter_len l.ended-iterator ≡ length (into_iter_items l.ended-iterator);
  so_far : l.databases.items ≡ map ended_of l.yielded;
  count : vec_len l.databases + into_iter_len l.ended-iterator ≤ MAX_DATABASES;
  wide : MAX_DATABASES ≤ vec_capacity l.databases;
}
