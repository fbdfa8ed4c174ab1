use Rattle.escrow_outcomes.proofs.Opened.{what_is_left_is_opened}
use Rattle.escrow_outcomes.proofs.laws.what_is_left_is_opened.Goals as goal

pub returns : goal.returns
returns g c = what_is_left_is_opened g.S.Store
