use Rattle.std.proofs.Common.{suc, ◌+◌, ◌<◌, ◌++◌, ap, ◌∙◌, arith, length, length-append}
use Rattle.std.proofs.lemmas.List.Elements.{All-append, All-drop, All-same, All-set, All-take}
use Rattle.escrow_memory.proofs.Splicing.{IsCounted, flat_map-joined, All-read}
use Rattle.escrow_memory.proofs.branch.join_small.Goals as goal

-- the joined child has the rows of both
pub returns-in_ok-join-clause-rows : goal.returns-in_ok-join-clause-rows
returns-in_ok-join-clause-rows g c =
    let rows = g.N.Node.rows in
    let removed = c.remove-next.ensures in
    let first = c.index_mut in
    let read = rw removed.items at first.ensures.value in
    let both = c.in_ok-join.ensures.ok ∙ ap (λ node. rows first.result.now.node.value ++ rows node) c.deref-then-is_small-2.ensures in
    rw removed.items
    (flat_map-joined (λ child. rows child.node.value) c.args.children.now.items c.args.place c.join.new.self first.result.now c.remove-next.result (omega arith) read removed.value both)

-- it has more rows than the second child, which is not empty
pub returns-in_ok-join-clause-counted : goal.returns-in_ok-join-clause-counted
returns-in_ok-join-clause-counted g c =
    let rows = g.N.Node.rows in
    let children = c.args.children.now.items in
    let removed = c.remove-next.ensures in
    let joined = c.in_ok-join.ensures in
    let next = All-read (IsCounted rows) children (c.args.place + 1) c.remove-next.result c.requires (omega arith) removed.value in
    let both = joined.ok ∙ ap (λ node. rows c.index_mut.result.now.node.value ++ rows node) c.deref-then-is_small-2.ensures in
    let sizes = simp length-append at (ap length both) in
    let some : 0 < c.join.new.self.len = omega arith in
    let others = All-append (IsCounted rows) _ _ (All-take (IsCounted rows) (c.args.place + 1) children c.requires) (All-drop (IsCounted rows) (suc (c.args.place + 1)) children c.requires) in
    All-set (IsCounted rows) _ c.args.place c.join.new.self (joined.len, some) (All-same (IsCounted rows) _ _ removed.items others)
