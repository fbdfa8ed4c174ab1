use Rattle.escrow_recover.proofs.ReadBack.{read_back}
use Rattle.escrow_recover.proofs.laws.tables_are_read_back.Goals as goal

pub returns : goal.returns
returns c = read_back
