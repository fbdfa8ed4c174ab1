use Rattle.escrow_protocol.proofs.Reached.{no_fold_is_refused}
use Rattle.escrow_protocol.proofs.laws.no_fold_is_refused.Goals as goal

pub returns : goal.returns
returns c = no_fold_is_refused
