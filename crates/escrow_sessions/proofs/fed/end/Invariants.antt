use Rattle.escrow_sessions.specs.Slots.{AreEndedBefore}
use Rattle.escrow_sessions.proofs.fed.end.Given as goal

abbrev pub invariant-loop-place : goal.invariant-loop-place
invariant-loop-place g l = AreEndedBefore l.place l.initial.slots.items l.slots.items
