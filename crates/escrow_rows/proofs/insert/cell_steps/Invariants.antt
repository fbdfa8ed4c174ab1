use Rattle.std.proofs.Common.{pos, take}
use Rattle.escrow_rows.specs.Image.{cells_from}
use Rattle.escrow_rows.specs.Steps.{PutsCells}
use Rattle.escrow_rows.proofs.insert.cell_steps.Given as goal

abbrev pub invariant-loop-i : goal.invariant-loop-i
invariant-loop-i l = PutsCells (cells_from l.table l.key (pos 1) (take l.i l.values)) l.steps.items
