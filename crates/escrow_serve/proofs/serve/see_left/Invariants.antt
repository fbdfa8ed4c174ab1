use Rattle.std.proofs.Common.{take}
use Rattle.std.specs.List.{AllByRecursion}
use Rattle.escrow_serve.specs.Left.{LeavesItsRows}
use Rattle.escrow_serve.proofs.serve.see_left.Given as goal

-- this holds of the databases visited so far
abbrev pub invariant-loop-database : goal.invariant-loop-database
invariant-loop-database g l = AllByRecursion (LeavesItsRows g.S.Store) (take l.database-index l.databases)
