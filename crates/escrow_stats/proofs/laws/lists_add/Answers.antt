use Rattle.escrow_stats.proofs.TallyLemmas.{lists_add}
use Rattle.escrow_stats.proofs.laws.lists_add.Goals as goal

pub returns : goal.returns
returns c = lists_add
