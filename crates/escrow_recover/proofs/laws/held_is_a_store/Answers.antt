use Rattle.escrow_recover.proofs.OneHeld.{held_is_a_store}
use Rattle.escrow_recover.proofs.laws.held_is_a_store.Goals as goal

pub returns : goal.returns
returns c = held_is_a_store
