use Rattle.escrow_bounds.proofs.Standing.{made_at}
use Rattle.escrow_bounds.proofs.bounds.Bounds.make.Goals as goal

pub returns-clause-at : goal.returns-clause-at
returns-clause-at c =
    let none = rw (← c.self.view_is) at c.requires.new in
    made_at c.self.inside.places.entries c.insert_full.new.self.entries c.args.row.now c.in_ok-place.place c.in_ok-index.index none
    (rw c.in_ok-copy.ensures.same at c.in_ok-index.ensures.entries) (rw c.in_ok-copy.ensures.same at c.in_ok-index.ensures.index)
