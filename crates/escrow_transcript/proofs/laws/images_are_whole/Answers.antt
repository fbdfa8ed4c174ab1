use Rattle.escrow_transcript.proofs.Legals.{images_are_whole}
use Rattle.escrow_transcript.proofs.laws.images_are_whole.Goals as goal

pub returns : goal.returns
returns c = images_are_whole
