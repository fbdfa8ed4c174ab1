use Rattle.escrow_outcomes.proofs.Readable.{texts_stay_readable}
use Rattle.escrow_outcomes.proofs.laws.texts_stay_readable.Goals as goal

pub returns : goal.returns
returns c = texts_stay_readable
