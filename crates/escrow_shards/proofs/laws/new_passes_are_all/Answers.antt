use Rattle.escrow_shards.proofs.NewPasses.{new_passes_are_all}
use Rattle.escrow_shards.proofs.laws.new_passes_are_all.Goals as goal

pub returns : goal.returns
returns c = new_passes_are_all
