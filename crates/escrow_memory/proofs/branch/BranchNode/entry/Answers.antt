use Rattle.std.proofs.Common.{◌+◌, ◌<◌, ◌≤◌, [], length, get_or, refl, sym, ap, ◌∙◌, arith}
use Rattle.std.proofs.lemmas.Option.{slice_get_read}
use Rattle.escrow_memory.specs.Children.{children_rows}
use Rattle.escrow_memory.proofs.Splicing.{flat_map-at}
use Rattle.escrow_memory.proofs.branch.BranchNode.entry.Goals as goal
use Rattle.escrow_memory.proofs.branch.BranchNode.entry.Goals.{After-deref}

-- the child there has the entry
child_has : (g : _) (c : After-deref g) → c.find-place.result.1 + 1 ≤ length (g.N.Node.rows c.index.result.now.node.value)
child_has g c =
    let children = c.args.self.now.children.items in
    let found = rw c.as_slice.ensures.value at c.find-place.ensures in
    let here : c.find-place.result.0 < length children = found.found (omega arith) in
    rw (slice_get_read children (length children) c.find-place.result.0 c.index.result.now refl here c.index.ensures) at found.inside

-- `find` returns the place of a child
pub index-requires : goal.index-requires
index-requires g c = omega (arith, c.find-place.ensures.found (omega arith), c.as_slice.ensures.len)

pub entry-requires : goal.entry-requires
entry-requires g c = rw c.deref.ensures (omega (arith, child_has g c))

-- the entry at the place that `find` returns in the child is the branch's
pub returns : goal.returns
returns g c =
    let rows = g.N.Node.rows in
    let children = c.args.self.now.children.items in
    let child = c.index.result.now in
    let place = c.find-place.result.0 in
    let left = c.find-place.result.1 in
    let found = rw c.as_slice.ensures.value at c.find-place.ensures in
    let here : place < length children = found.found (omega arith) in
    let within = child_has g (goal.at.returns g c).After-deref in
    c.entry.ensures
    ∙ ap (λ node. get_or (rows node) left []) c.deref.ensures
    ∙ sym (flat_map-at (λ other. rows other.node.value) children place left child [] here c.index.ensures (omega (arith, within)))
    ∙ ap (λ at. get_or (children_rows rows children) at []) (sym found.before)
