use Rattle.escrow_journal.proofs.LawLemmas.{nothing_is_lost}
use Rattle.escrow_journal.proofs.laws.nothing_is_lost.Goals as goal

pub returns : goal.returns
returns c = nothing_is_lost
