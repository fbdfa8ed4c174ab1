use Rattle.std.specs.Prelude.{refl}
use Rattle.escrow_transcript.proofs.laws.limits.Goals as goal

pub returns : goal.returns
returns c = record { entries = refl; numbers = refl }
