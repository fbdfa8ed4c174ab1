use Rattle.std.specs.Prelude.{refl}
use Rattle.escrow_journal.proofs.laws.limits_of_a_session.Goals as goal

pub returns : goal.returns
returns c = (refl, refl)
