use Rattle.std.proofs.Common.{◌≡◌, ◌+◌, ◌-◌, ◌<◌, ◌≤◌, take, length}
use Rattle.escrow_memory.specs.Children.{children_rows}
use Rattle.escrow_memory.proofs.branch.find.Given as goal

abbrev pub invariant-loop-place : goal.invariant-loop-place
invariant-loop-place g l = record {
  before : l.at ≡ length (children_rows g.N.Node.rows (take l.place l.children)) + l.left;
  place : l.place ≤ length l.children;
  left : 0 < l.place → 0 < l.left + l.cut;
}

abbrev pub decreases-loop-place : goal.decreases-loop-place
decreases-loop-place g l = length l.children - l.place
