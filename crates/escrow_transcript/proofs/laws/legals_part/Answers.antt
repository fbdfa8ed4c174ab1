use Rattle.escrow_transcript.proofs.Legals.{legals_part}
use Rattle.escrow_transcript.proofs.laws.legals_part.Goals as goal

pub returns : goal.returns
returns c = legals_part
