use Rattle.std.proofs.Common.{◌≡◌, ◌-◌, ◌<◌, [], length, get_or, sym, ap, ◌∙◌, arith}
use Rattle.escrow_memory.proofs.Splicing.{IsCounted, flat_map_some, flat_map-last, All-read}
use Rattle.escrow_memory.proofs.branch.BranchNode.last.Goals as goal

-- the last child is not empty, so its last entry is the branch's
pub returns : goal.returns
returns g c =
    let rows = g.N.Node.rows in
    let children = c.args.self.now.children.items in
    let child = c.index.result.now in
    let some : 0 < length children = flat_map_some (λ other. rows other.node.value) children c.requires in
    let len : c.len.result ≡ length children = omega arith in
    let read = rw len at c.index.ensures in
    let counted = All-read (IsCounted rows) children (length children - 1) child c.args.self.now.counted (omega arith) read in
    c.last.ensures
    ∙ ap (λ node. get_or (rows node) (length (rows node) - 1) []) c.deref.ensures
    ∙ sym (flat_map-last (λ other. rows other.node.value) children child [] some read (omega arith))
