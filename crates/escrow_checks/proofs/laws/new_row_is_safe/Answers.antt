use Rattle.escrow_checks.proofs.EndsLemmas.{new_row_is_safe}
use Rattle.escrow_checks.proofs.laws.new_row_is_safe.Goals as goal

pub returns : goal.returns
returns c = new_row_is_safe
