use Rattle.escrow_schema.proofs.LawLemmas.{values_fit}
use Rattle.escrow_schema.proofs.laws.values_fit.Goals as goal

pub returns : goal.returns
returns c = values_fit
