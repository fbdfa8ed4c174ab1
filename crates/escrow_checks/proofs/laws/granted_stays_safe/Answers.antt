use Rattle.escrow_checks.proofs.GrantLemmas.{granted_stays_safe}
use Rattle.escrow_checks.proofs.laws.granted_stays_safe.Goals as goal

pub returns : goal.returns
returns c = granted_stays_safe
