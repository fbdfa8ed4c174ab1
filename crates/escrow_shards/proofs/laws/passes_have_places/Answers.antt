use Rattle.escrow_shards.proofs.NewPasses.{passes_have_places}
use Rattle.escrow_shards.proofs.laws.passes_have_places.Goals as goal

pub returns : goal.returns
returns c = passes_have_places
