use Rattle.escrow_checks.proofs.ScaledLemmas.{units_are_whole}
use Rattle.escrow_checks.proofs.laws.units_are_whole.Goals as goal

pub returns : goal.returns
returns c = units_are_whole
