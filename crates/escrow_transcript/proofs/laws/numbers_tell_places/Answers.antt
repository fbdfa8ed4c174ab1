use Rattle.escrow_transcript.proofs.Legals.{numbers_tell_places}
use Rattle.escrow_transcript.proofs.laws.numbers_tell_places.Goals as goal

pub returns : goal.returns
returns c = numbers_tell_places
