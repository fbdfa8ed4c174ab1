use Rattle.std.proofs.Common.{take}
use Rattle.escrow_core.specs.Ends.{AreCommits}
use Rattle.escrow_core.proofs.database.Database.run_len.Given as goal

abbrev pub invariant-loop-i : goal.invariant-loop-i
invariant-loop-i g l = AreCommits (take l.i l.plan)
