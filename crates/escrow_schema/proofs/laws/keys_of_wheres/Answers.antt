use Rattle.escrow_schema.proofs.PlanLemmas.{keys_of_wheres}
use Rattle.escrow_schema.proofs.laws.keys_of_wheres.Goals as goal

pub returns : goal.returns
returns c = keys_of_wheres
