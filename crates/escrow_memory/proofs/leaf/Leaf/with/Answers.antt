-- The old rows are unchanged, and the new slot's row is the entry's.
use Rattle.escrow_memory.proofs.LeafLemmas.{row_pushed}
use Rattle.escrow_memory.proofs.leaf.Leaf.with.Goals as goal

pub returns : goal.returns
returns c =
    let grown = c.in_ok-slot.ensures.ok in
    let behind = rw grown at c.in_ok-slot.ensures.slot in
    rw (c.in_ok-push.ensures.items, grown) (row_pushed _ c.args.entry.now _ c.in_ok-slot.slot c.args.self.within behind)
