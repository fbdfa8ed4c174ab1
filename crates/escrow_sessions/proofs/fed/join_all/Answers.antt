use Rattle.std.proofs.Common.{rules}
use Rattle.escrow_sessions.specs.Slots.{JoinsAs}
use Rattle.escrow_sessions.proofs.Places.{zip_as}
use Rattle.escrow_sessions.proofs.fed.join_all.Goals as goal

pub returns : goal.returns
returns g c = zip_as _ JoinsAs (λ x y made. search rules) c.args.slots.items c.fill.result.items c.fill.ensures
