use Rattle.escrow_protocol.proofs.Reached.{server_is_valid}
use Rattle.escrow_protocol.proofs.laws.server_is_valid.Goals as goal

pub returns : goal.returns
returns c = server_is_valid
