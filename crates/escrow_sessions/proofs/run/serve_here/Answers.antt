use Rattle.std.proofs.Common.{rules}
use Rattle.escrow_sessions.specs.Serving.{IsDone}
use Rattle.escrow_sessions.proofs.Places.{zip_as}
use Rattle.escrow_sessions.proofs.run.serve_here.Goals as goal

pub returns : goal.returns
returns g c = zip_as _ (λ f d. IsDone f.pass f.requests.items d) (λ x y made. search rules) c.args.feeds.items c.fill.result.items c.fill.ensures
