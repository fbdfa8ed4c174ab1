use Rattle.std.proofs.Common.{rules}
use Rattle.escrow_sessions.specs.Work.{CameOf}
use Rattle.escrow_sessions.proofs.Places.{zip_as}
use Rattle.escrow_sessions.proofs.run.join_all.Goals as goal

pub returns : goal.returns
returns g c = zip_as _ CameOf (λ x y made. search rules) c.args.workers.items c.fill.result.items c.fill.ensures
