use Rattle.std.proofs.Common.{rules}
use Rattle.escrow_sessions.specs.Work.{IsWorkerOf}
use Rattle.escrow_sessions.proofs.Places.{zip_as}
use Rattle.escrow_sessions.proofs.run.start_all.Goals as goal

pub returns : goal.returns
returns g c = zip_as _ IsWorkerOf (λ x y made. search rules) c.args.feeds.items c.fill.result.items c.fill.ensures
