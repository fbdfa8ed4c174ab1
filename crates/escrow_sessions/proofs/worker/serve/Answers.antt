use Rattle.std.proofs.Common.{refl}
use Rattle.escrow_sessions.specs.Work.{IsServedSoFar}
use Rattle.escrow_sessions.proofs.InOrder.{so_far_one, stopped_at}
use Rattle.escrow_sessions.proofs.worker.serve.Goals as goal

pub returns-then-is_err : goal.returns-then-is_err
returns-then-is_err g c =
    let gives = g.Q.Source.gives in let at = c.loop in
    let so_far : IsServedSoFar gives c.args.pass c.args.source.now c.reserve.new.self.items at.pass at.source = rw c.reserve.ensures.items at.invariant.so_far in
    stopped_at gives c.args.pass c.args.source.now _ _ _ _ c.in-Some-next.request _ so_far c.in-Some-next.ensures c.skip.ensures.1 refl

pub loop-preserved : goal.loop-preserved
loop-preserved g c =
    let gives = g.Q.Source.gives in let at = c.loop in
    record {
      can_next = tt;
      finite = tt;
      seat = c.give.ensures.seat;
      kept = c.give.ensures.kept;
      so_far =
          rw (c.push_reserved.ensures.items, c.reserve.ensures.items)
          (so_far_one gives c.args.pass c.args.source.now at.answers.items at.pass c.give.new.pass _ _ c.in-Some-next.request c.give.result at.invariant.so_far c.in-Some-next.ensures c.give.ensures.given);
    }
