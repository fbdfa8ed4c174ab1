use Rattle.std.proofs.Common.{◌≡◌, length, take}
use Rattle.escrow_rows.specs.Placed.{placed}
use Rattle.escrow_rows.proofs.read.read_values.Given as goal

abbrev pub invariant-loop-i : goal.invariant-loop-i
invariant-loop-i l = (take l.i l.cells ≡ placed 1 l.values.items) × (length l.values.items ≡ l.i)
