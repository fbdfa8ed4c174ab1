use Rattle.escrow_script.proofs.ReadingLemmas.{has_one_reading}
use Rattle.escrow_script.proofs.laws.lines_are_read_in_one_way.Goals as goal

pub returns : goal.returns
returns c = has_one_reading
