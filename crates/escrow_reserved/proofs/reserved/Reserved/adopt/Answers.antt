use Rattle.escrow_bounds.proofs.Altering.{adopt_counts}
use Rattle.escrow_reserved.proofs.Counting.{all_count}
use Rattle.escrow_reserved.proofs.reserved.Reserved.adopt.Goals as goal

pub invariant_of-self : goal.invariant_of-self
invariant_of-self c =
    let reservations = c.self.inside.txns.reservations in
    let places = c.self.inside.bounds in
    let placed = rw (← c.self.view_is) at c.requires.placed in
    let prepared = rw (← c.self.view_is) at c.requires.prepared in
    record {
      counts = (adopt_counts prepared.0 prepared.1 reservations places c.args.addition c.adopt.new.self c.self.invariant.counts (all_count reservations places placed c.self.invariant.counts) prepared.2 c.adopt.ensures).0;
      short = c.self.invariant.short;
    }

pub returns-clause-places : goal.returns-clause-places
returns-clause-places c =
    let reservations = c.self.inside.txns.reservations in
    let places = c.self.inside.bounds in
    let placed = rw (← c.self.view_is) at c.requires.placed in
    rw (← c.self.view_is) (λ table checks prepared.
    (adopt_counts table checks reservations places c.args.addition c.adopt.new.self c.self.invariant.counts (all_count reservations places placed c.self.invariant.counts) prepared c.adopt.ensures).2)
