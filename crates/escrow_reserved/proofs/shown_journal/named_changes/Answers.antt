use Rattle.std.proofs.Common.{◌≡◌, ◌⊎◌, inl, inr, length, sym, ◌∙◌, append-nil}
use Rattle.escrow_reserved.proofs.Journals.{named_end}
use Rattle.escrow_reserved.proofs.shown_journal.named_changes.Goals as goal

pub returns : goal.returns
returns c =
    let columns = c.loop-column.column-iterator.a.rest.now in
    let changes = c.loop-column.column-iterator.b.rest.now in
    let end : (length columns ≡ 0) ⊎ (length changes ≡ 0) = elim c.in-None.ensures.steps [ inl e ↦ inl e.1.0 | inr e ↦ inr e.1.0 ] in
    sym (append-nil c.loop-column.named) ∙ rw (named_end columns changes end) at c.loop-column.invariant
