use Rattle.escrow_sessions.proofs.InOrder.{then_one}
use Rattle.escrow_sessions.proofs.worker.skip.Goals as goal

pub loop-preserved : goal.loop-preserved
loop-preserved g c =
    let before = c.loop.invariant.2 in
    (tt, tt, (_, then_one g.Q.Source.gives before.0 c.in-Some-next.request _ _ _ before.1 c.in-Some-next.ensures))
