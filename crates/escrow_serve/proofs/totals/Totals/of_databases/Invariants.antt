use Rattle.std.proofs.Common.{◌≤◌, ◌-◌, vec_len}
use Rattle.std.specs.Prelude.{vec_capacity}
use Rattle.std.specs.List.{AllByRecursion}
use Rattle.escrow_serve.specs.Totals.{AreNone}
use Rattle.escrow_serve.proofs.totals.Totals.of_databases.Given as goal

-- there is room for the others, and none has counted
abbrev pub invariant-loop-alloc : goal.invariant-loop-alloc
invariant-loop-alloc l = record {
  room : l.databases ≤ vec_capacity l.totals;
  len : vec_len l.totals ≤ l.databases;
  none : AllByRecursion AreNone l.totals.items;
}

abbrev pub decreases-loop-alloc : goal.decreases-loop-alloc
decreases-loop-alloc l = l.databases - vec_len l.totals
