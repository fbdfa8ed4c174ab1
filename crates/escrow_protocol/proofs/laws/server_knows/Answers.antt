use Rattle.escrow_protocol.proofs.Reached.{server_knows}
use Rattle.escrow_protocol.proofs.laws.server_knows.Goals as goal

pub returns : goal.returns
returns c = server_knows
