use Rattle.escrow_machine.proofs.Shapes.{covered}
use Rattle.escrow_reserved.proofs.shown_bounds.free_bounds.Goals as goal

pub reserve-requires-clause-covered : goal.reserve-requires-clause-covered
reserve-requires-clause-covered c = rw c.as_slice.ensures (covered c.args.table.now c.args.amounts.now c.requires.table c.requires.amounts)
