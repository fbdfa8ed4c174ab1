use Rattle.escrow_checks.proofs.SpreadLemmas.{adds_nothing}
use Rattle.escrow_checks.proofs.laws.other_rows_add_nothing.Goals as goal

pub returns : goal.returns
returns c = adds_nothing
