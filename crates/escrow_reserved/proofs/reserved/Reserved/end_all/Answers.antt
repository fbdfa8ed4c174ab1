use Rattle.std.specs.Prelude.{length}
use Rattle.std.proofs.Common.{ap, arith, ◌∙◌}
use Rattle.escrow_journal.specs.Open.{Open}
use Rattle.escrow_reserved.proofs.Ends.{ended_more, own_and_others, places_more}
use Rattle.escrow_reserved.proofs.reserved.Reserved.end_all.Goals as goal

pub overflow_add-count : goal.overflow_add-count
overflow_add-count c =
    let so_far = c.loop-session in
    let parts = own_and_others c.loop-session-item.result.0 so_far.self.txns.reservations in
    omega (arith, so_far.invariant.count, c.requires, c.end-count.ensures.count, parts)

pub loop-session-preserved : goal.loop-session-preserved
loop-session-preserved c =
    let plan = c.args.plan.now in
    let so_far = c.loop-session in
    let i = so_far.session-index in
    let entry = c.loop-session-item.result in
    let below = c.loop-session-test.true in
    let is = c.loop-session-item.is in
    let parts = own_and_others entry.0 so_far.self.txns.reservations in
    let left = ap (λ (o : Open). length o.reservations) c.end-count.ensures.txns in
    record {
      count = omega (arith, so_far.invariant.count, c.end-count.ensures.count, left, parts);
      txns = c.end-count.ensures.txns ∙ ended_more plan i entry c.args.self.now.txns so_far.self.txns below is so_far.invariant.txns;
      places =
          places_more plan i entry c.args.self.now.txns so_far.self.txns c.args.self.now.places so_far.self.places c.end-count.new.self.places below is so_far.invariant.txns
          so_far.invariant.places c.end-count.ensures.places;
      placed = λ placed. c.end-count.ensures.placed (so_far.invariant.placed placed);
    }
