use Rattle.escrow_bounds.specs.Counts.{TakesIn}
use Rattle.escrow_bounds.proofs.Standing.{own_at, own_place, written, others_stay}
use Rattle.escrow_bounds.proofs.bounds.Bounds.add_at.Goals as goal

pub take_in-requires : goal.take_in-requires
take_in-requires c =
    let places = c.self.inside.places in
    let entry = c.pair_mut-place.result in
    let found = c.pair_mut-place.ensures in
    let at = own_at places c.args.index entry.0.now entry.1.now found.unique found.value in
    (rw (← c.self.view_is) at c.requires.room) entry.0.now entry.1.now at (own_place places c.args.index entry.0.now entry.1.now found.unique found.value entry.0.now at)

pub returns-clause-takes : goal.returns-clause-takes
returns-clause-takes c =
    let entry = c.pair_mut-place.result in
    let found = c.pair_mut-place.ensures in
    rw (← c.self.view_is) (λ row is.
    written c.self.inside.places c.args.index entry.0.now entry.1.now found.unique found.value c.take_in.new.self row is (TakesIn c.args.changes.now) c.take_in.ensures)

pub returns-clause-others : goal.returns-clause-others
returns-clause-others c =
    let entry = c.pair_mut-place.result in
    let found = c.pair_mut-place.ensures in
    rw (← c.self.view_is) (λ row is. others_stay c.self.inside.places c.args.index entry.0.now entry.1.now found.unique found.value c.take_in.new.self row is)
