use Rattle.escrow_checks.proofs.EndsLemmas.{other_rows_stay_safe}
use Rattle.escrow_checks.proofs.laws.other_rows_stay_safe.Goals as goal

pub returns : goal.returns
returns c = other_rows_stay_safe
