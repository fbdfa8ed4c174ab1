use Rattle.escrow_transcript.proofs.Legals.{legals_join}
use Rattle.escrow_transcript.proofs.laws.legals_join.Goals as goal

pub returns : goal.returns
returns c = legals_join
