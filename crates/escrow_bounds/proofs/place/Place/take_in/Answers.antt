use Rattle.escrow_bounds.proofs.place.Place.take_in.Goals as goal

pub returns : goal.returns
returns c = record { amounts = c.recount.ensures.amounts; checks = c.recount.ensures.checks; counts = c.recount.ensures.counts }
