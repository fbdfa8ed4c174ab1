use Rattle.escrow_protocol.proofs.Reached.{no_check_breaks}
use Rattle.escrow_protocol.proofs.laws.no_check_breaks.Goals as goal

pub returns : goal.returns
returns c = no_check_breaks
