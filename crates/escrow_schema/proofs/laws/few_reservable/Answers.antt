use Rattle.escrow_schema.proofs.LawLemmas.{few_reservable}
use Rattle.escrow_schema.proofs.laws.few_reservable.Goals as goal

pub returns : goal.returns
returns c = few_reservable
