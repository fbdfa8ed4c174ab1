use Rattle.escrow_checks.proofs.EndsLemmas.{any_choice_can_stay}
use Rattle.escrow_checks.proofs.laws.any_choice_can_roll_back.Goals as goal

pub returns : goal.returns
returns g c = any_choice_can_stay
