use Rattle.std.proofs.Common.{◌≡◌, map, take, vec_len}
use Rattle.escrow_shards.specs.Opened.{database_at, AreRead}
use Rattle.escrow_shards.proofs.make.starts_of.Given as goal

abbrev pub invariant-loop-i : goal.invariant-loop-i
invariant-loop-i g l = record {
  read : AreRead g.S.Store l.initial.databases.items l.databases.items;
  so_far : map database_at l.starts.items ≡ take l.i l.databases.items;
  as_long : vec_len l.databases ≡ vec_len l.initial.databases;
}
