use Rattle.std.proofs.Common.{refl}
use Rattle.crossbeam_channel.specs.Claims.{view}
use Rattle.escrow_sessions.proofs.Keeping.{keeps_sent}
use Rattle.escrow_sessions.specs.Rule.{with_sent}
use Rattle.escrow_sessions.proofs.channel.Sender.send.Goals as goal

pub send_as-requires-clause-rule : goal.send_as-requires-clause-rule
send_as-requires-clause-rule g c =
    let pass = c.loop.self.pass in (
      (λ items views room kept here. (with_sent (view pass) c.loop.item, keeps_sent items views pass.id (view pass) kept here c.loop.item c.loop.self.sends, refl)),
      (λ items views kept here. tt),
    )
