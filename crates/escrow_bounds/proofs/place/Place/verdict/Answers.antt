use Rattle.escrow_bounds.proofs.place.Place.verdict.Goals as goal

pub returns : goal.returns
returns c =
    let found = rw (c.as_slice.ensures, c.deref.ensures, c.deref-2.ensures.value, c.deref-3.ensures.value) at c.first_violation.ensures in
    rw (← c.self.view_is) (λ reservations counts. found c.self.inside.amounts.items reservations c.self.invariant.1 c.self.invariant.0.covered counts.1)
