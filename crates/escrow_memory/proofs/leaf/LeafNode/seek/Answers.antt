use Rattle.std.proofs.Common.{◌+◌, ◌-◌, ◌/◌, arith}
use Rattle.escrow_memory.specs.Leaf.{leaf_rows}
use Rattle.escrow_memory.specs.Probe.{passes}
use Rattle.escrow_memory.proofs.Cuts.{passes_before, fails_behind}
use Rattle.escrow_memory.proofs.leaf.LeafNode.seek.Goals as goal

pub loop-low-preserved-then-passes : goal.loop-low-preserved-then-passes
loop-low-preserved-then-passes c =
    let middle = c.loop-low.low + (c.loop-low.high - c.loop-low.low) / 2 in
    let before = passes_before (passes c.args.probe) (leaf_rows c.args.self.now) middle c.requires (omega arith) (cc) in
    record { low = omega arith; high = c.loop-low.invariant.high; within = c.loop-low.invariant.within }

pub loop-low-preserved : goal.loop-low-preserved
loop-low-preserved c =
    let middle = c.loop-low.low + (c.loop-low.high - c.loop-low.low) / 2 in
    let behind = fails_behind (passes c.args.probe) (leaf_rows c.args.self.now) middle c.requires (omega arith) (cc) in
    record { low = c.loop-low.invariant.low; high = behind; within = omega arith }
