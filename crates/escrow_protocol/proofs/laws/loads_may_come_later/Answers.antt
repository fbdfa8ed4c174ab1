use Rattle.escrow_protocol.proofs.Reached.{loads_may_come_later}
use Rattle.escrow_protocol.proofs.laws.loads_may_come_later.Goals as goal

pub returns : goal.returns
returns c = loads_may_come_later
