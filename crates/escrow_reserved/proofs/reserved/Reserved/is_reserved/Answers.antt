use Rattle.std.proofs.Common.{◌∙◌}
use Rattle.escrow_bounds.proofs.Counting.{counting_is}
use Rattle.escrow_reserved.proofs.reserved.Reserved.is_reserved.Goals as goal

pub returns : goal.returns
returns c = rw (← c.self.view_is) (c.is_reserved.ensures ∙ counting_is c.self.inside.bounds c.self.inside.txns.reservations c.args.row.now c.self.invariant.counts)
