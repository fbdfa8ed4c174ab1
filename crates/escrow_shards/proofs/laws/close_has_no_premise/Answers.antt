use Rattle.escrow_shards.proofs.Wholes.{close_has_no_premise}
use Rattle.escrow_shards.proofs.laws.close_has_no_premise.Goals as goal

pub returns : goal.returns
returns g c = close_has_no_premise g.S.Store c.requires
