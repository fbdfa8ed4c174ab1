use Rattle.std.proofs.Common.{◌∙◌}
use Rattle.escrow_bounds.proofs.Altering.{adopted_next, popped}
use Rattle.escrow_bounds.proofs.bounds.Bounds.adopt.Goals as goal

pub loop-row-preserved-in-Some : goal.loop-row-preserved-in-Some
loop-row-preserved-in-Some c = λ other.
    adopted_next c.loop-row.addition c.pop.new.self c.loop-row.self c.put.new.self c.in-Some.row c.in-Some.place
    (popped c.loop-row.addition c.pop.new.self c.pop.result c.in-Some.row c.in-Some.place c.pop.ensures.last c.in-Some.is) c.put.ensures.own c.put.ensures.others other
    ∙ c.loop-row.invariant other

pub loop-row-preserved : goal.loop-row-preserved
loop-row-preserved c = λ other.
    adopted_next c.loop-row.addition c.pop.new.self c.loop-row.self c.put.new.self c.in-Some.row c.in-Some.place
    (popped c.loop-row.addition c.pop.new.self c.pop.result c.in-Some.row c.in-Some.place c.pop.ensures.last c.in-Some.is) c.put.ensures.own c.put.ensures.others other
    ∙ c.loop-row.invariant other
