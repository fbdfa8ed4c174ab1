use Rattle.std.proofs.Common.{◌≡◌, ◌+◌, length, take}
use Rattle.escrow_reserved.specs.Ends.{AreAllEnded, all_ended}
use Rattle.escrow_reserved.specs.Reserved.{ArePlaced}
use Rattle.escrow_reserved.proofs.reserved.Reserved.end_all.Given as goal

abbrev pub invariant-loop-session : goal.invariant-loop-session
invariant-loop-session l = record {
  count : l.count + length l.self.txns.reservations ≡ length l.initial.self.txns.reservations;
  txns : l.self.txns ≡ all_ended (take l.session-index l.plan) l.initial.self.txns;
  places : AreAllEnded (take l.session-index l.plan) l.initial.self.txns l.initial.self.places l.self.places;
  placed : ArePlaced l.initial.self.txns.reservations l.initial.self.places → ArePlaced l.self.txns.reservations l.self.places;
}
