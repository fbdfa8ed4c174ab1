use Rattle.escrow_outcomes.proofs.Shown.{restarts_show}
use Rattle.escrow_outcomes.proofs.laws.restarts_show.Goals as goal

pub returns : goal.returns
returns c = restarts_show
