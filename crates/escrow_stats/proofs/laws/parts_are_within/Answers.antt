use Rattle.escrow_stats.proofs.TallyLemmas.{parts_are_within}
use Rattle.escrow_stats.proofs.laws.parts_are_within.Goals as goal

pub returns : goal.returns
returns c = parts_are_within
