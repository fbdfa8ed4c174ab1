use contract.Lifetimes.{Lfts}
use denote.Param.{param}
use denote.Param.Send.{IsSend, param_send, sendable}
use Rattle.std.proofs.Crossing.{crosses}
use Rattle.escrow_server.proofs.Crossing.{monitor_send}
use Rattle.escrow_server.proofs.monitor.start.Given.{Over}
use Rattle.escrow_server.proofs.monitor.start.Lts as Lts
use Rattle.escrow_server.proofs.monitor.start.Goals as goal

-- what the thread takes with it, without the facts known where it starts
taken_send : (g : Over) (κs : Lfts 4) → IsSend (param 2 g.row.X)
    → IsSend (Lts.arg-10-1 g.row.S g.row.T g.row.X g.S.laws g.T.laws g.X.laws g.S.Alter g.S.Alter-dict g.S.Store g.S.Store-dict g.T.Threads g.T.Threads-dict g.T.Wait g.T.Wait-dict g.X.Screen g.X.Screen-dict g.S.Destruct-dict g.X.Destruct-dict κs)
taken_send g κs screen = search (monitor_send, sendable, crosses) depth 40 fits 20000

pub spawn-requires-send-F : goal.spawn-requires-send-F
spawn-requires-send-F g c κs within = param_send 1 _ (taken_send g κs c.type_bounds.send-X)
