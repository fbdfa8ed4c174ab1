use Rattle.escrow_accounts.proofs.Reached.{reservations_end_once}
use Rattle.escrow_accounts.proofs.laws.reservations_end_once.Goals as goal

pub returns : goal.returns
returns c = reservations_end_once
