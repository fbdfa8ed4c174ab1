use Rattle.std.proofs.Common.{take}
use Rattle.escrow_recover.proofs.Tabs.{AreRead}
use Rattle.escrow_recover.proofs.tables.each_table.Given as goal

abbrev pub invariant-loop-row : goal.invariant-loop-row
invariant-loop-row l = AreRead (take l.row-index l.rows) l.tables.items
