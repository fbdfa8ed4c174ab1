use Rattle.std.proofs.Common.{◌≡◌, ◌+◌, ◌-◌, ◌/◌, count_by, arith}
use Rattle.std.proofs.lemmas.List.Sums.{count_by-le-length}
use Rattle.escrow_memory.specs.Children.{children_rows}
use Rattle.escrow_memory.specs.Probe.{passes}
use Rattle.escrow_memory.proofs.Cuts.{child_passes, child_fails, cut_of_child, count_in_child, entry_there, none_there}
use Rattle.escrow_memory.proofs.branch.BranchNode.seek.Given.{Over}
use Rattle.escrow_memory.proofs.branch.BranchNode.seek.Goals as goal

pub loop-low-preserved-then-passes : goal.loop-low-preserved-then-passes
loop-low-preserved-then-passes g c =
    let branch = c.args.self.now in
    let middle = c.loop-low.low + (c.loop-low.high - c.loop-low.low) / 2 in
    record {
      low = child_passes (passes c.args.probe) g.N.Node.rows branch.children.items c.requires middle c.index.result.now (omega arith) c.index.ensures branch.counted (cc);
      high = c.loop-low.invariant.high;
      inside = c.loop-low.invariant.inside;
      ordered = omega arith;
      within = c.loop-low.invariant.within;
    }

pub loop-low-preserved : goal.loop-low-preserved
loop-low-preserved g c =
    let branch = c.args.self.now in
    let middle = c.loop-low.low + (c.loop-low.high - c.loop-low.low) / 2 in
    let inside = child_fails (passes c.args.probe) g.N.Node.rows branch.children.items c.requires middle c.index.result.now (omega arith) c.index.ensures branch.counted (cc) in
    record {
      low = c.loop-low.invariant.low;
      high = omega (arith, inside);
      inside = λ more. inside;
      ordered = omega arith;
      within = omega arith;
    }

pub seek-within-requires : goal.seek-within-requires
seek-within-requires g c =
    rw c.deref-2.ensures (cut_of_child (passes c.args.probe) g.N.Node.rows c.args.self.now.children.items c.requires c.loop-low.low c.index-2.result.now (omega arith) c.index-2.ensures)

-- the place in the child, added to the number of earlier rows, is the place in the branch
place_in_branch : (g : Over) (c : goal.After-found-1 g) → c.len_before-before.result + c.seek-within.result.0 ≡ count_by (passes c.args.probe) (children_rows g.N.Node.rows c.args.self.now.children.items)
place_in_branch g c =
    let at_end : c.loop-low.low ≡ c.loop-low.high = omega arith in
    let high = rw (← at_end) at c.loop-low.invariant.high in
    rw (c.len_before-before.ensures, c.seek-within.ensures.place, c.deref-2.ensures, c.as_slice.ensures.value)
    (count_in_child (passes c.args.probe) g.N.Node.rows c.args.self.now.children.items c.requires c.loop-low.low c.index-2.result.now (omega arith) c.index-2.ensures c.loop-low.invariant.low high)

pub overflow_add-result : goal.overflow_add-result
overflow_add-result g c = omega (arith, place_in_branch g c, count_by-le-length (passes c.args.probe) (children_rows g.N.Node.rows c.args.self.now.children.items))

pub returns-clause-place : goal.returns-clause-place
returns-clause-place g c = place_in_branch g c

pub returns-clause-some : goal.returns-clause-some
returns-clause-some g c =
    let some = rw c.deref-2.ensures at c.seek-within.ensures.some in
    rw (c.len_before-before.ensures, c.as_slice.ensures.value)
    (entry_there g.N.Node.rows c.args.self.now.children.items c.loop-low.low c.index-2.result.now (omega arith) c.index-2.ensures c.seek-within.result.0 c.seek-within.result.1 some)

-- a child that returns no entry is the last one
pub returns-clause-none : goal.returns-clause-none
returns-clause-none g c = λ none.
    let at_end : c.loop-low.low ≡ c.loop-low.high = omega arith in
    let before_end = rw (← at_end, ← place_in_branch g c, c.len_before-before.ensures, c.as_slice.ensures.value) at c.loop-low.invariant.inside in
    let behind = rw c.deref-2.ensures at (c.seek-within.ensures.none none) in
    rw (c.len_before-before.ensures, c.as_slice.ensures.value)
    (none_there g.N.Node.rows c.args.self.now.children.items c.loop-low.low c.index-2.result.now (omega arith) c.index-2.ensures c.seek-within.result.0 before_end behind)
