use Rattle.std.proofs.Common.{◌≡◌, ◌+◌, drop, length, arith}
use Rattle.std.proofs.lemmas.List.Elements.{All-drop, All-same}
use Rattle.escrow_memory.specs.Children.{children_rows}
use Rattle.escrow_memory.proofs.Splicing.{IsCounted, flat_map_parts, length-flat_map_parts}
use Rattle.escrow_memory.proofs.branch.Branch.divided.Goals as goal
use Rattle.escrow_memory.proofs.branch.Branch.divided.Goals.{In_ok-behind}

-- together, the two parts have all entries
sizes : (g : _) (c : In_ok-behind g) → c.len_before-before.result + length (children_rows g.N.Node.rows (drop c.if-newest-len.middle c.args.self.children.items)) ≡ c.args.self.total
sizes g c =
    let before = rw c.as_slice.ensures.value at c.len_before-before.ensures in
    let parts = length-flat_map_parts (λ child. g.N.Node.rows child.node.value) c.if-newest-len.middle c.args.self.children.items in
    omega (arith, c.args.self.summed)

-- the first part has no more entries than there are
pub overflow_sub-second : goal.overflow_sub-second
overflow_sub-second g c = omega (arith, sizes g (goal.at.overflow_sub-second g c).In_ok-behind)

-- the second part has the remaining entries
pub invariant_of-second : goal.invariant_of-second
invariant_of-second g c = record {
  counted = All-same (IsCounted g.N.Node.rows) _ _ c.in_ok-behind.ensures.tail (All-drop (IsCounted g.N.Node.rows) c.if-newest-len.middle c.args.self.children.items c.args.self.counted);
  summed = rw c.in_ok-behind.ensures.tail (omega (arith, sizes g (goal.at.invariant_of-second g c).In_ok-behind));
}

-- the parts' rows, joined, are the branch's
pub returns : goal.returns
returns g c =
    rw (c.in_ok-behind.ensures.items, c.in_ok-behind.ensures.tail) (flat_map_parts (λ child. g.N.Node.rows child.node.value) c.if-newest-len.middle c.args.self.children.items)
