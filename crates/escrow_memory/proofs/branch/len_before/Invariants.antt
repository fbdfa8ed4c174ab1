use Rattle.std.proofs.Common.{◌≡◌, take, length}
use Rattle.escrow_memory.specs.Children.{children_rows}
use Rattle.escrow_memory.proofs.branch.len_before.Given as goal

abbrev pub invariant-loop-child : goal.invariant-loop-child
invariant-loop-child g l = l.before ≡ length (children_rows g.N.Node.rows (take l.child-index l.children))
