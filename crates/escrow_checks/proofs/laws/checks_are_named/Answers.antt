use Rattle.escrow_checks.proofs.CheckNames.{checks_are_named}
use Rattle.escrow_checks.proofs.laws.checks_are_named.Goals as goal

pub returns : goal.returns
returns c = checks_are_named
