use Rattle.escrow_journal.proofs.LawLemmas.{a_name_takes_one_place}
use Rattle.escrow_journal.proofs.laws.a_name_takes_one_place.Goals as goal

pub returns : goal.returns
returns c = a_name_takes_one_place
