use Rattle.escrow_checks.proofs.WideLemmas.{sums_are_wide}
use Rattle.escrow_checks.proofs.laws.sums_are_wide.Goals as goal

pub returns : goal.returns
returns c = sums_are_wide
