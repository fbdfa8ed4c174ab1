use Rattle.escrow_checks.proofs.GrantLemmas.{granted_where_always_met}
use Rattle.escrow_checks.proofs.laws.granted_where_always_met.Goals as goal

pub returns : goal.returns
returns c = granted_where_always_met
