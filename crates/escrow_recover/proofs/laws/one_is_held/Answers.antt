use Rattle.escrow_recover.proofs.OneHeld.{one_is_held}
use Rattle.escrow_recover.proofs.laws.one_is_held.Goals as goal

pub returns : goal.returns
returns c = one_is_held
