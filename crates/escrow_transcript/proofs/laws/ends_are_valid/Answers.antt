use Rattle.escrow_transcript.proofs.Legals.{ends_are_valid}
use Rattle.escrow_transcript.proofs.laws.ends_are_valid.Goals as goal

pub returns : goal.returns
returns c = ends_are_valid
