use Rattle.escrow_schema.proofs.PlanLemmas.{plain_plans_fit}
use Rattle.escrow_schema.proofs.laws.plain_plans_fit.Goals as goal

pub returns : goal.returns
returns c = plain_plans_fit
