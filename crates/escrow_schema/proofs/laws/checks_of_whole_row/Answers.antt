use Rattle.escrow_schema.proofs.LawLemmas.{checks_of_whole_row}
use Rattle.escrow_schema.proofs.laws.checks_of_whole_row.Goals as goal

pub returns : goal.returns
returns c = checks_of_whole_row
