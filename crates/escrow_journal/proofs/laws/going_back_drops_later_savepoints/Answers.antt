use Rattle.escrow_journal.proofs.LawLemmas.{going_back_drops_later_savepoints}
use Rattle.escrow_journal.proofs.laws.going_back_drops_later_savepoints.Goals as goal

pub returns : goal.returns
returns c = going_back_drops_later_savepoints
