use Rattle.std.proofs.Common.{◌-◌, ◌≤◌, length, count_by}
use Rattle.escrow_memory.specs.Probe.{passes}
use Rattle.escrow_memory.specs.Leaf.{leaf_rows}
use Rattle.escrow_memory.proofs.leaf.LeafNode.seek.Given as goal

-- the place is between `low` and `high`
abbrev pub invariant-loop-low : goal.invariant-loop-low
invariant-loop-low l = record {
  low : l.low ≤ count_by (passes l.probe) (leaf_rows l.self);
  high : count_by (passes l.probe) (leaf_rows l.self) ≤ l.high;
  within : l.high ≤ length (leaf_rows l.self);
}

abbrev pub decreases-loop-low : goal.decreases-loop-low
decreases-loop-low l = l.high - l.low
