use Rattle.escrow_protocol.proofs.Reached.{each_change_once}
use Rattle.escrow_protocol.proofs.laws.each_change_once.Goals as goal

pub returns : goal.returns
returns c = each_change_once
