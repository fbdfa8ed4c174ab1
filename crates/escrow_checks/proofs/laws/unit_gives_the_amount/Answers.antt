use Rattle.escrow_checks.proofs.LinearLemmas.{form-column}
use Rattle.escrow_checks.proofs.laws.unit_gives_the_amount.Goals as goal

pub returns : goal.returns
returns c = form-column
