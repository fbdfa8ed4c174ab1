use Rattle.std.specs.Prelude.{⊤}
use Rattle.escrow_server.proofs.databases.close_databases.Given as goal

-- each turn leaves one database fewer
abbrev pub invariant-loop-database : goal.invariant-loop-database
invariant-loop-database l = ⊤

abbrev pub decreases-loop-database : goal.decreases-loop-database
decreases-loop-database l = goal.left-loop-database l
