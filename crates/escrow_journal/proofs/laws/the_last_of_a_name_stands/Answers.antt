use Rattle.escrow_journal.proofs.LawLemmas.{the_last_of_a_name_stands}
use Rattle.escrow_journal.proofs.laws.the_last_of_a_name_stands.Goals as goal

pub returns : goal.returns
returns c = the_last_of_a_name_stands
