use Rattle.escrow_sessions.specs.Slots.{AreFurther}
use Rattle.escrow_sessions.proofs.fed.feed.Given as goal

abbrev pub invariant-loop-place : goal.invariant-loop-place
invariant-loop-place g l = record {
  can : (goal.iterator-loop-place g).can_next l.place-iterator;
  ends : (goal.iterator-loop-place g).is_finite l.place-iterator;
  further : AreFurther l.yielded l.initial.slots.items l.slots.items;
}
