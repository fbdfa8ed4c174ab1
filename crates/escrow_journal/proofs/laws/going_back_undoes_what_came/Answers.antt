use Rattle.escrow_journal.proofs.LawLemmas.{going_back_undoes_what_came}
use Rattle.escrow_journal.proofs.laws.going_back_undoes_what_came.Goals as goal

pub returns : goal.returns
returns c = going_back_undoes_what_came
