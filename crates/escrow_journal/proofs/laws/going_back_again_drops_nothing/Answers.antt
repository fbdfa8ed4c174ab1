use Rattle.escrow_journal.proofs.LawLemmas.{going_back_again_drops_nothing}
use Rattle.escrow_journal.proofs.laws.going_back_again_drops_nothing.Goals as goal

pub returns : goal.returns
returns c = going_back_again_drops_nothing
