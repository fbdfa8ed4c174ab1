use Rattle.escrow_rows.proofs.PlacedCells.{placed_more}
use Rattle.escrow_rows.proofs.read.read_values.Goals as goal

pub loop-i-preserved : goal.loop-i-preserved
loop-i-preserved c =
    placed_more c.args.cells.now c.loop-i.values.items c.push.new.self.items c.loop-i.i c.index-cells-i.result c.in_ok-value.value
    c.loop-i-test.true c.index-cells-i.is c.loop-i.invariant.0 c.loop-i.invariant.1 (rw c.in_ok-value.ensures c.in_ok-value_at.ensures) c.in_ok-push.ensures.items
