use Rattle.escrow_accounts.proofs.Reached.{units_are_accounted_for}
use Rattle.escrow_accounts.proofs.laws.units_are_accounted_for.Goals as goal

pub returns : goal.returns
returns c = units_are_accounted_for
