use Rattle.escrow_bounds.proofs.Altering.{drop_check_counts}
use Rattle.escrow_reserved.proofs.Counting.{all_count}
use Rattle.escrow_reserved.proofs.reserved.Reserved.drop_check.Goals as goal

pub invariant_of-self : goal.invariant_of-self
invariant_of-self c =
    let reservations = c.self.inside.txns.reservations in
    let places = c.self.inside.bounds in
    let placed = rw (← c.self.view_is) at c.requires.placed in
    record {
      counts = (drop_check_counts c.args.table c.args.index reservations places c.drop_check.new.self c.self.invariant.counts (all_count reservations places placed c.self.invariant.counts) c.drop_check.ensures).0;
      short = c.self.invariant.short;
    }
