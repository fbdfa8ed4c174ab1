use Rattle.std.proofs.Common.{refl}
use Rattle.crossbeam_channel.specs.Claims.{view}
use Rattle.escrow_sessions.proofs.Keeping.{keeps_taken}
use Rattle.escrow_sessions.specs.Rule.{with_taken}
use Rattle.escrow_sessions.proofs.channel.ReceiverSource.next.Goals as goal

pub recv_as-requires-clause-rule : goal.recv_as-requires-clause-rule
recv_as-requires-clause-rule g c =
    let pass = c.loop.self.pass in (
      (λ x items views kept here. (with_taken (view pass) x, keeps_taken x items views pass.id (view pass) kept here c.loop.self.takes, refl)),
      (λ items views kept here. tt),
    )
