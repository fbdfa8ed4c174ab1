use Rattle.escrow_sessions.proofs.run.start_listed.Goals as goal

pub returns : goal.returns
returns g c = (_, c.into_iter-left.ensures.rest, c.start.ensures)
