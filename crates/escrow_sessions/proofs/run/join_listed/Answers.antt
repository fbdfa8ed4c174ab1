use Rattle.escrow_sessions.proofs.AtOnce.{listed_done}
use Rattle.escrow_sessions.proofs.run.join_listed.Goals as goal

pub returns : goal.returns
returns g c = listed_done c.args.worker c.join.result c.join.ensures
