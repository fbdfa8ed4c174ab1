use Rattle.std.specs.Prelude.{IsSome, take}
use Rattle.escrow_num.specs.declared.reservation.Reservation.{Reservation}
use Rattle.escrow_bounds.specs.Bounds.{place_at}
use Rattle.escrow_machine.specs.Walked.{IsShort}
use Rattle.escrow_reserved.proofs.Counting.{own_placed, short_own}
use Rattle.escrow_reserved.proofs.Ends.{all_own}
use Rattle.escrow_reserved.proofs.reserved.Reserved.all_of.Goals as goal

pub returns-clause-placed : goal.returns-clause-placed
returns-clause-placed c =
    let plan = take c.loop-session.session-index c.args.plan.now in
    let reservations = c.self.inside.txns.reservations in
    rw (c.loop-session.invariant, ← c.self.view_is)
    (all_own (λ (r : Reservation). IsSome (place_at c.self.inside.bounds r.row)) plan reservations (λ session. own_placed session c.self.inside.bounds reservations c.self.invariant.counts))

pub returns-clause-short : goal.returns-clause-short
returns-clause-short c =
    let plan = take c.loop-session.session-index c.args.plan.now in
    let reservations = c.self.inside.txns.reservations in
    rw (c.loop-session.invariant, ← c.self.view_is) (all_own IsShort plan reservations (λ session. short_own session reservations c.self.invariant.short))
