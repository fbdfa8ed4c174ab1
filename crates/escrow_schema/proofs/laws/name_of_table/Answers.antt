use Rattle.escrow_schema.proofs.LawLemmas.{name_of_table}
use Rattle.escrow_schema.proofs.laws.name_of_table.Goals as goal

pub returns : goal.returns
returns c = name_of_table
