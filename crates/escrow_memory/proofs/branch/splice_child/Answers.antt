use Rattle.std.proofs.Common.{◌≡◌, ◌+◌, ◌<◌, ◌≤◌, [], take, length, refl, sym, ap, ◌∙◌, arith}
use Rattle.std.proofs.lemmas.List.{nil_from_length}
use Rattle.std.proofs.lemmas.List.Elements.{All-same}
use Rattle.std.proofs.lemmas.Option.{slice_get_read}
use Rattle.escrow_memory.specs.Children.{children_rows}
use Rattle.escrow_memory.specs.Rows.{spliced, entry_rows, next_rows}
use Rattle.escrow_memory.proofs.Splicing.{IsCounted, flat_map-spliced, flat_map-removed, edited_within, edited_at, All-edited, All-edited_removed}
use Rattle.escrow_memory.proofs.branch.splice_child.Goals as goal
use Rattle.escrow_memory.proofs.branch.splice_child.Goals.{After-index}

-- the rows after `add_next` are the edited ones
rows_edited : (g : _) (c : After-index g) → children_rows g.N.Node.rows c.add_next.new.children.items ≡ spliced (length (children_rows g.N.Node.rows (take c.args.place c.args.children.now.items)) + c.args.at) c.args.cut (entry_rows c.args.new) (children_rows g.N.Node.rows c.args.children.now.items)
rows_edited g c =
    let rows = g.N.Node.rows in
    let children = c.args.children.now.items in
    let old = c.index_mut.result.now in
    let read = c.index_mut.ensures.value in
    let within : c.args.at + c.args.cut ≤ length (rows old.node.value) = rw (slice_get_read children (length children) c.args.place old refl c.requires.place read) at c.requires.inside in
    rw c.in_ok-add_next.ensures.rows
    (flat_map-spliced (λ child. rows child.node.value) children c.args.place c.splice.new.self old (next_rows rows c.in_ok-next.next) (entry_rows c.args.new) c.args.at c.args.cut c.requires.place read within c.in_ok-next.ensures.ok)

-- the child that is read is the edited one
edited_read : (g : _) (c : After-index g) → c.index.result.now ≡ c.splice.new.self
edited_read g c = c.index.ensures ∙ edited_at c.args.children.now.items c.add_next.new.children.items c.args.place c.splice.new.self c.requires.place c.in_ok-add_next.ensures.front c.index.result.now

-- a child that still has entries is kept
pub returns-else-index-eq0-clause-rows : goal.returns-else-index-eq0-clause-rows
returns-else-index-eq0-clause-rows g c = rows_edited g (goal.at.returns-else-index-eq0-clause-rows g c).After-index

pub returns-else-index-eq0-clause-counted : goal.returns-else-index-eq0-clause-counted
returns-else-index-eq0-clause-counted g c =
    let same = edited_read g (goal.at.returns-else-index-eq0-clause-counted g c).After-index in
    let some : 0 < c.splice.new.self.len = rw (← same) (omega arith) in
    let before = c.args.children.now.items in
    let after = c.add_next.new.children.items in
    let added = c.in_ok-add_next.ensures in
    All-edited before after c.args.place c.splice.new.self c.requires.place added.front (IsCounted g.N.Node.rows) c.requires.counted added.back (c.in_ok-next.ensures.len, some)

-- a child without entries is removed
pub returns-then-index-eq0-clause-rows : goal.returns-then-index-eq0-clause-rows
returns-then-index-eq0-clause-rows g c =
    let rows = g.N.Node.rows in
    let step = (goal.at.returns-then-index-eq0-clause-rows g c).After-index in
    let before = c.args.children.now.items in
    let after = c.add_next.new.children.items in
    let child = c.splice.new.self in
    let front = c.in_ok-add_next.ensures.front in
    let none : rows child.node.value ≡ [] = nil_from_length (rows child.node.value) (sym c.in_ok-next.ensures.len ∙ ap (λ other. other.len) (sym (edited_read g step)) ∙ c.if-index-eq0.true) in
    let within = edited_within before after c.args.place child c.requires.place front in
    let read = edited_at before after c.args.place child c.requires.place front child in
    rw c.remove.ensures.items (flat_map-removed (λ other. rows other.node.value) after c.args.place child within read none ∙ rows_edited g step)

pub returns-then-index-eq0-clause-counted : goal.returns-then-index-eq0-clause-counted
returns-then-index-eq0-clause-counted g c =
    let before = c.args.children.now.items in
    let after = c.add_next.new.children.items in
    let added = c.in_ok-add_next.ensures in
    All-same (IsCounted g.N.Node.rows) _ _ c.remove.ensures.items
    (All-edited_removed before after c.args.place c.splice.new.self c.requires.place added.front (IsCounted g.N.Node.rows) c.requires.counted added.back)
