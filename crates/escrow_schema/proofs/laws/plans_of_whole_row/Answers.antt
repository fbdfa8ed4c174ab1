use Rattle.escrow_schema.proofs.PlanLemmas.{plans_of_whole_row}
use Rattle.escrow_schema.proofs.laws.plans_of_whole_row.Goals as goal

pub returns : goal.returns
returns c = plans_of_whole_row
