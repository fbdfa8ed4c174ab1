use Rattle.escrow_journal.specs.Inside.{journal_of}
use Rattle.escrow_journal.proofs.Kept.{cut_kept}
use Rattle.escrow_journal.proofs.journal.Journal.cut.Goals as goal

pub invariant_of-self : goal.invariant_of-self
invariant_of-self c =
    rw (c.truncate.ensures.items, c.truncate-2.ensures.items)
    (cut_kept _ _ (journal_of c.self.inside) c.self.invariant)

pub returns-clause-valid : goal.returns-clause-valid
returns-clause-valid c = invariant_of-self c
