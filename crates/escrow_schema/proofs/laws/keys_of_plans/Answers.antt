use Rattle.escrow_schema.proofs.PlanLemmas.{keys_of_plans}
use Rattle.escrow_schema.proofs.laws.keys_of_plans.Goals as goal

pub returns : goal.returns
returns c = keys_of_plans
