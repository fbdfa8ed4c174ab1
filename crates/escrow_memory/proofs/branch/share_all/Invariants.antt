use Rattle.std.proofs.Common.{◌≡◌, ◌++◌, take}
use Rattle.escrow_memory.specs.Children.{children_rows, AreCounted}
use Rattle.escrow_memory.proofs.branch.share_all.Given as goal

abbrev pub invariant-loop-child : goal.invariant-loop-child
invariant-loop-child g l = record {
  rows : children_rows g.N.Node.rows l.children.items ≡ children_rows g.N.Node.rows l.fn.children.items ++ children_rows g.N.Node.rows (take l.child-index l.others);
  counted : AreCounted g.N.Node.rows l.fn.children.items → AreCounted g.N.Node.rows l.others → AreCounted g.N.Node.rows l.children.items;
}
