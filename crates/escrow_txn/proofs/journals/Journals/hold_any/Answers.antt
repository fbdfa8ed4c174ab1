use Rattle.std.proofs.Common.{sym, ◌∙◌}
use Rattle.escrow_txn.proofs.EachSession.{any_held}
use Rattle.escrow_txn.proofs.journals.Journals.hold_any.Goals as goal

pub returns-else-any_holds : goal.returns-else-any_holds
returns-else-any_holds c =
    rw (← c.self.view_is)
    (c.any_other_holds.ensures.any
    ∙ any_held c.self.inside.first.items c.self.inside.others c.self.invariant c.any_other_holds.ensures.ordered (rw c.deref.ensures.value at (sym c.any_holds.ensures ∙ c.if-any_holds.false)))
