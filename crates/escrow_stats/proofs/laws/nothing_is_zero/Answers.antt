use Rattle.escrow_stats.proofs.TallyLemmas.{nothing_is_zero}
use Rattle.escrow_stats.proofs.laws.nothing_is_zero.Goals as goal

pub returns : goal.returns
returns c = nothing_is_zero
