use Rattle.escrow_changes.proofs.Taken.{delete_takes_its_row}
use Rattle.escrow_changes.proofs.laws.delete_takes_its_row.Goals as goal

pub returns : goal.returns
returns c = delete_takes_its_row
