use Rattle.escrow_transcript.proofs.Legals.{legals_are_runs}
use Rattle.escrow_transcript.proofs.laws.legals_are_runs.Goals as goal

pub returns : goal.returns
returns c = legals_are_runs
