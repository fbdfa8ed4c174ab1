use Rattle.std.proofs.Common.{subst}
use Rattle.escrow_sessions.specs.Serving.{IsDone}
use Rattle.escrow_sessions.proofs.AtOnce.{listed_served}
use Rattle.escrow_sessions.proofs.run.serve_listed.Goals as goal

pub returns : goal.returns
returns g c = subst (λ rs. IsDone c.args.feed.pass rs c.serve.result) c.into_iter-left.ensures.rest (listed_served c.args.feed.pass _ _ c.serve.result c.serve.ensures)
