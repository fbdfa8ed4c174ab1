use Rattle.std.proofs.Common.{◌∙◌}
use Rattle.escrow_bounds.proofs.Counting.{table_placed_is}
use Rattle.escrow_reserved.proofs.Counting.{all_count}
use Rattle.escrow_reserved.proofs.reserved.Reserved.is_table_reserved.Goals as goal

pub returns : goal.returns
returns c =
    let placed = rw (← c.self.view_is) at c.requires in
    let places = c.self.inside.bounds in
    let reservations = c.self.inside.txns.reservations in
    rw (← c.self.view_is) (c.has_place_in.ensures ∙ table_placed_is places reservations c.args.table (all_count reservations places placed c.self.invariant.counts) c.self.invariant.counts)
