use Rattle.escrow_transcript.proofs.Legals.{nothing_is_legal}
use Rattle.escrow_transcript.proofs.laws.nothing_is_legal.Goals as goal

pub returns : goal.returns
returns c = nothing_is_legal
