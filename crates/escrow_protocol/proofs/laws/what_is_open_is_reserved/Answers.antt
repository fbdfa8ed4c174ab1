use Rattle.escrow_protocol.proofs.Reached.{what_is_open_is_reserved}
use Rattle.escrow_protocol.proofs.laws.what_is_open_is_reserved.Goals as goal

pub returns : goal.returns
returns c = what_is_open_is_reserved
