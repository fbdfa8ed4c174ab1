use Rattle.std.proofs.Common.{◌≡◌, ◌<◌, arith, length-take, get_or, get_or-take, ◌∙◌}
use Rattle.escrow_memory.proofs.Splicing.{front_fits}
use Rattle.escrow_memory.proofs.branch.len_before.Goals as goal

-- the rows so far and the child's are among all rows, of which there are `total`
pub overflow_add-before : goal.overflow_add-before
overflow_add-before g c =
    let child = c.child-item.result in
    let index = c.loop-child.child-index in
    let children = c.args.children.now in
    let below : index < c.args.place = omega (arith, length-take c.args.place children) in
    let read : child ≡ get_or children index child = c.child-item.is ∙ get_or-take c.args.place children index child below in
    let counted = c.requires.counted index child (omega (arith, c.requires.within)) in
    rw read (omega (arith, c.loop-child.invariant, front_fits (λ child. g.N.Node.rows child.node.value) children index child (omega (arith, c.requires.within))))
