use Rattle.escrow_protocol.proofs.Runs.{each_event_comes}
use Rattle.escrow_protocol.proofs.laws.each_event_comes.Goals as goal

pub returns : goal.returns
returns c = each_event_comes
