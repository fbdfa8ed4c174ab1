use Rattle.escrow_outcomes.proofs.Apart.{others_make_no_difference}
use Rattle.escrow_outcomes.proofs.laws.others_make_no_difference.Goals as goal

pub returns : goal.returns
returns c = others_make_no_difference
