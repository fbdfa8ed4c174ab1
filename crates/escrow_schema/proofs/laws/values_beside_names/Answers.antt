use Rattle.escrow_schema.proofs.LawLemmas.{values_beside_names}
use Rattle.escrow_schema.proofs.laws.values_beside_names.Goals as goal

pub returns : goal.returns
returns c = values_beside_names
