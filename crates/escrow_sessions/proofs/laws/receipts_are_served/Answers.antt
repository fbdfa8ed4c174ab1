use Rattle.escrow_sessions.proofs.Gaining.{gained}
use Rattle.escrow_sessions.proofs.laws.receipts_are_served.Goals as goal

pub returns : goal.returns
returns c = gained
