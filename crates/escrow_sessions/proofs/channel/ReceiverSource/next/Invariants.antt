use Rattle.std.proofs.Common.{◌≡◌}
use Rattle.crossbeam_channel.specs.Claims.{view}
use Rattle.crossbeam_channel.specs.Ends.{receives_on}
use Rattle.escrow_sessions.proofs.channel.ReceiverSource.next.Given as goal

abbrev pub invariant-loop : goal.invariant-loop
invariant-loop g l = record {
  can_next : (goal.iterator-loop g).can_next l.iterator';
  finite : (goal.iterator-loop g).is_finite l.iterator';
  channel : receives_on l.self.receiver ≡ receives_on l.initial.self.receiver;
  untaken : view l.self.pass ≡ view l.initial.self.pass;
}
