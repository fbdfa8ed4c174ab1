use Rattle.escrow_stats.proofs.TallyLemmas.{one_more_is_with_one}
use Rattle.escrow_stats.proofs.laws.one_more_is_with_one.Goals as goal

pub returns : goal.returns
returns c = one_more_is_with_one
