use Rattle.escrow_checks.proofs.EndsLemmas.{any_choice_can_commit}
use Rattle.escrow_checks.proofs.laws.any_choice_can_commit.Goals as goal

pub returns : goal.returns
returns g c = any_choice_can_commit
