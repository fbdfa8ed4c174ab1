use Rattle.escrow_transcript.proofs.Legals.{one_more_is_legal}
use Rattle.escrow_transcript.proofs.laws.one_more_is_legal.Goals as goal

pub returns : goal.returns
returns c = one_more_is_legal
