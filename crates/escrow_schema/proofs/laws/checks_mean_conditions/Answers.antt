use Rattle.escrow_schema.proofs.LawLemmas.{checks_mean_conditions}
use Rattle.escrow_schema.proofs.laws.checks_mean_conditions.Goals as goal

pub returns : goal.returns
returns c = checks_mean_conditions
