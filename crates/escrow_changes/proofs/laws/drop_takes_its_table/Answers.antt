use Rattle.escrow_changes.proofs.Taken.{drop_takes_its_table}
use Rattle.escrow_changes.proofs.laws.drop_takes_its_table.Goals as goal

pub returns : goal.returns
returns c = drop_takes_its_table
