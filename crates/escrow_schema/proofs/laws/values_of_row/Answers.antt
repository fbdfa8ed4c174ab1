use Rattle.escrow_schema.proofs.LawLemmas.{values_of_row}
use Rattle.escrow_schema.proofs.laws.values_of_row.Goals as goal

pub returns : goal.returns
returns c = values_of_row
