use Rattle.std.proofs.Common.{◌≡◌}
use Rattle.crossbeam_channel.specs.Claims.{view}
use Rattle.crossbeam_channel.specs.Ends.{sends_on}
use Rattle.escrow_sessions.proofs.channel.Sender.send.Given as goal

abbrev pub invariant-loop : goal.invariant-loop
invariant-loop g l = record {
  can_next : (goal.iterator-loop g).can_next l.iterator';
  finite : (goal.iterator-loop g).is_finite l.iterator';
  channel : sends_on l.self.sender ≡ sends_on l.initial.self.sender;
  unsent : view l.self.pass ≡ view l.initial.self.pass;
  item : l.item ≡ l.initial.item;
}
