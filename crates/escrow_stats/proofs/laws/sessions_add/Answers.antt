use Rattle.escrow_stats.proofs.SessionLemmas.{sessions_add}
use Rattle.escrow_stats.proofs.laws.sessions_add.Goals as goal

pub returns : goal.returns
returns c = sessions_add
