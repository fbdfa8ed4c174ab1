use Rattle.escrow_schema.proofs.PlanLemmas.{refusals_of_plans}
use Rattle.escrow_schema.proofs.laws.refusals_of_plans.Goals as goal

pub returns : goal.returns
returns c = refusals_of_plans
