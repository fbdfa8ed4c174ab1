use Rattle.escrow_transcript.proofs.Legals.{calls_tell_all}
use Rattle.escrow_transcript.proofs.laws.calls_tell_all.Goals as goal

pub returns : goal.returns
returns c = calls_tell_all
