use Rattle.std.proofs.Common.{◌∷◌, ◌++◌, subst}
use Rattle.escrow_bounds.specs.Counts.{Counts, GivesBack}
use Rattle.escrow_bounds.specs.Place.{Place}
use Rattle.escrow_bounds.proofs.Standing.{own_same, still_at, written, others_stay}
use Rattle.escrow_bounds.proofs.bounds.Bounds.remove_at.Goals as goal

pub give_back-requires : goal.give_back-requires
give_back-requires c =
    let entry = c.pair_mut-place.result in
    let found = c.pair_mut-place.ensures in
    let counted = rw (← c.self.view_is) at c.requires in
    let same = own_same c.self.inside.places c.args.index entry.0.now entry.1.now found.unique found.value counted.0 counted.1 counted.4 counted.5 in
    (counted.2, counted.3, subst (λ (kept : Place). Counts kept (counted.2 ++ c.args.changes.now ∷ counted.3)) same counted.6)

pub returns-clause-at : goal.returns-clause-at
returns-clause-at c =
    let entry = c.pair_mut-place.result in
    let found = c.pair_mut-place.ensures in
    rw (← c.self.view_is) (λ row is. still_at c.self.inside.places c.args.index entry.0.now entry.1.now found.unique found.value c.give_back.new.self row is)

pub returns-clause-gives : goal.returns-clause-gives
returns-clause-gives c =
    let entry = c.pair_mut-place.result in
    let found = c.pair_mut-place.ensures in
    rw (← c.self.view_is) (λ row is.
    written c.self.inside.places c.args.index entry.0.now entry.1.now found.unique found.value c.give_back.new.self row is (GivesBack c.args.end c.args.changes.now) c.give_back.ensures)

pub returns-clause-others : goal.returns-clause-others
returns-clause-others c =
    let entry = c.pair_mut-place.result in
    let found = c.pair_mut-place.ensures in
    rw (← c.self.view_is) (λ row is. others_stay c.self.inside.places c.args.index entry.0.now entry.1.now found.unique found.value c.give_back.new.self row is)
