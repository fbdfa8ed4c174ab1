use Rattle.std.proofs.Common.{rules}
use Rattle.escrow_sessions.specs.Slots.{IsNewSlot}
use Rattle.escrow_sessions.proofs.Places.{zip_as}
use Rattle.escrow_sessions.proofs.fed.start_all.Goals as goal

pub returns : goal.returns
returns g c = zip_as _ IsNewSlot (λ x y made. search rules) c.args.passes.items c.fill.result.items c.fill.ensures
