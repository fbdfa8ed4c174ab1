use Rattle.std.proofs.Common.{◌+◌, ◌-◌, ◌<◌, ◌≤◌, length, take, count_by}
use Rattle.escrow_memory.specs.Children.{children_rows}
use Rattle.escrow_memory.specs.Probe.{passes}
use Rattle.escrow_memory.proofs.branch.BranchNode.seek.Given as goal

-- the place is in the children from `low` to `high`, and before the end of `high` unless that is the last child
abbrev pub invariant-loop-low : goal.invariant-loop-low
invariant-loop-low g l = record {
  low : length (children_rows g.N.Node.rows (take l.low l.self.children.items)) ≤ count_by (passes l.probe) (children_rows g.N.Node.rows l.self.children.items);
  high : count_by (passes l.probe) (children_rows g.N.Node.rows l.self.children.items) ≤ length (children_rows g.N.Node.rows (take (l.high + 1) l.self.children.items));
  inside : l.high + 1 < length l.self.children.items → count_by (passes l.probe) (children_rows g.N.Node.rows l.self.children.items) < length (children_rows g.N.Node.rows (take (l.high + 1) l.self.children.items));
  ordered : l.low ≤ l.high;
  within : l.high < length l.self.children.items;
}

abbrev pub decreases-loop-low : goal.decreases-loop-low
decreases-loop-low g l = l.high - l.low
