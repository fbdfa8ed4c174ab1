use Rattle.escrow_protocol.proofs.Runs.{each_rule_is_needed}
use Rattle.escrow_protocol.proofs.laws.each_rule_is_needed.Goals as goal

pub returns : goal.returns
returns c = each_rule_is_needed
