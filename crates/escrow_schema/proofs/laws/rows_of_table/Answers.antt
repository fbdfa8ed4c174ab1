use Rattle.escrow_schema.proofs.LawLemmas.{rows_of_table}
use Rattle.escrow_schema.proofs.laws.rows_of_table.Goals as goal

pub returns : goal.returns
returns c = rows_of_table
