use Rattle.escrow_bounds.proofs.LawLemmas.{same_grant_rule}
use Rattle.escrow_bounds.proofs.laws.same_grant_rule.Goals as goal

pub returns : goal.returns
returns c = same_grant_rule
