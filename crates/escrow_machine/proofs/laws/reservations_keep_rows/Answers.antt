use Rattle.escrow_machine.proofs.LawsChanges.{reservations_keep_rows}
use Rattle.escrow_machine.proofs.laws.reservations_keep_rows.Goals as goal

pub returns : goal.returns
returns c = reservations_keep_rows
