use Rattle.escrow_checks.proofs.FormLemmas.{length-all_changed}
use Rattle.escrow_checks.proofs.laws.changes_keep_the_number.Goals as goal

pub returns : goal.returns
returns c = length-all_changed
