use Rattle.escrow_schema.proofs.PlanLemmas.{refusals_of_keys}
use Rattle.escrow_schema.proofs.laws.refusals_of_keys.Goals as goal

pub returns : goal.returns
returns c = refusals_of_keys
