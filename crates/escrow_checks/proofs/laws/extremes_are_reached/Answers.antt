use Rattle.escrow_checks.proofs.ReachedLemmas.{extremes_are_reached}
use Rattle.escrow_checks.proofs.laws.extremes_are_reached.Goals as goal

pub returns : goal.returns
returns c = extremes_are_reached
